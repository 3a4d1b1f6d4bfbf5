use Rattle.std.proofs.Common.{ap, subst, ◌∙◌}
use Rattle.std.proofs.Common.{IsPermutation}
use Rattle.std.proofs.lemmas.List.Sorted.{IsPermutation-map}
use Rattle.std.proofs.lemmas.Simd.{map-map}
use Rattle.intern_terms.specs.Store.{names_in}
use Rattle.intern_terms.proofs.store.TermStore.iter.Goals as goal

pub returns : goal.returns
returns g c =
    subst (IsPermutation _) (map-map _ _ _ ∙ ap names_in c.self.view_is)
    (IsPermutation-map (λ e. e.0) _ _ c.iter.ensures)
