use Rattle.std.proofs.Common.{map, refl, ap, ◌∙◌}
use Rattle.intern_terms.specs.Handle.{term_name}
use Rattle.intern_terms.specs.Walk.{with_name}
use Rattle.intern_terms.proofs.Walks.{added_by}
use Rattle.intern_terms.proofs.found.Found.push.Goals as goal

pub returns : goal.returns
returns c =
    ap (map term_name) c.in_ok-insert.ensures.keys
    ∙ added_by _ (λ a b. refl) c.args.term c.self.inside.terms.keys
    ∙ ap (λ names. with_name names (term_name c.args.term)) c.self.view_is
