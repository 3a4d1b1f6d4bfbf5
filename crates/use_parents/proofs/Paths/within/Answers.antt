use Rattle.std.proofs.Common.{sym, ap, ◌∙◌}
use Rattle.ra_ap_intern.specs.Handle.{name_if}
use Rattle.ra_ap_intern.specs.Names.{has}
use Rattle.ra_ap_intern.specs.Visitors.{of_name}
use Rattle.ra_ap_intern.proofs.CallerLemmas.{built_interned, interned_reads_on, line_on, parent_read}
use Rattle.use_paths.specs.Paths.{declared_by, parent_of, last_of}
use Rattle.use_paths.specs.declared.Path.TheVariants.{Within}
use Rattle.use_paths.proofs.Opened.{parent_is}
use Rattle.use_parents.proofs.Paths.within.Goals as goal

pub invariant_of-self-2 : goal.invariant_of-self-2
invariant_of-self-2 c =
    let s = c.self.inside.paths in
    rw (c.in_ok-path.ensures.state)
    (built_interned declared_by _ s c.number-number.ensures.state
    (Within c.args.parent c.args.name) c.self.invariant (λ child declared.
    parent_read s (name_if c.args.parent) (rw (c.self.view_is) c.in_ok-check.ensures) child
    (sym (ap (λ o. has (of_name o) child) (parent_is _ _)) ∙ declared)))

pub returns-clause-stays : goal.returns-clause-stays
returns-clause-stays c =
    rw (← c.self.view_is, c.in_ok-path.ensures.state)
    (line_on parent_of last_of c.self.inside.paths _
    (interned_reads_on _ c.self.inside.paths c.number-number.ensures.state
    (Within c.args.parent c.args.name)))
