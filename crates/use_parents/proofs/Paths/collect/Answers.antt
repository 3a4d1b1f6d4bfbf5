use Rattle.ra_ap_intern.specs.Handle.{ref_name}
use Rattle.ra_ap_intern.proofs.CallerLemmas.{built_collected, line_collected, listed_singly}
use Rattle.use_paths.specs.Paths.{declared_by, parent_of, last_of}
use Rattle.use_paths.proofs.Opened.{declares}
use Rattle.use_parents.proofs.Paths.collect.Goals as goal

pub invariant_of-self : goal.invariant_of-self
invariant_of-self c =
    built_collected declared_by _ _ _ c.collect_from.result
    (c.collect_from.ensures.ok, c.collect_from.ensures.err) c.self.invariant

pub returns-clause-stays : goal.returns-clause-stays
returns-clause-stays c =
    rw (← c.self.view_is, ← listed_singly ref_name c.args.roots.now)
    (line_collected declared_by _ _ _ c.collect_from.result
    (c.collect_from.ensures.ok, c.collect_from.ensures.err) parent_of last_of declares)
