use Rattle.std.proofs.Common.{refl, ap, ◌∙◌}
use Rattle.ra_ap_intern.specs.Names.{has}
use Rattle.intern_terms.specs.Handle.{term_name}
use Rattle.intern_terms.proofs.Walks.{found_by}
use Rattle.intern_terms.proofs.found.Found.contains.Goals as goal

pub returns : goal.returns
returns c =
    c.contains.ensures ∙ found_by _ (λ a b. refl) c.args.term c.self.inside.terms.keys
    ∙ ap (λ names. has names (term_name c.args.term)) c.self.view_is
