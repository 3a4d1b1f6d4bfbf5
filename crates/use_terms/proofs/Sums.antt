-- Sums, and the trees of terms that are sums.
use Rattle.std.proofs.Common.{◌≡◌, ◌↔◌, [], ◌∷◌, Some, refl, sym, ap, ◌∙◌}
use Rattle.ra_ap_intern.specs.Name.{Name}
use Rattle.ra_ap_intern.specs.Sliced.{Sliced}
use Rattle.ra_ap_intern.specs.State.{State}
use Rattle.ra_ap_intern.specs.Symbols.{Named}
use Rattle.ra_ap_intern.specs.declared.symbol.Symbol.{Symbol}
use Rattle.intern_terms.specs.Store.{arguments}
use Rattle.intern_terms.specs.Tree.{Tree, tree, no_more, one_more, UnfoldsTo}
use Rattle.intern_terms.specs.declared.handle.TermRef.{TermRef}
use Rattle.intern_terms.proofs.CallerTerms.{forest_two}
use Rattle.use_terms.specs.Sums.{IsSum}

module _ (s : State (Sliced Symbol TermRef)) (plus : Named) (name zero : Name) where
  -- a name reads one sum
  pub one_sum : (one other : Name) → IsSum s plus name zero one → IsSum s plus name zero other
      → one ≡ other
  one_sum one other p q =
      let same : Some p.term ≡ Some q.term = sym p.read ∙ q.read in
      let terms : p.term ≡ q.term = cc in
      let both : zero ∷ one ∷ [] ≡ zero ∷ other ∷ [] = sym p.args ∙ ap arguments terms ∙ q.args in
      cc

  -- a name whose tree is a sum, and begins with that of zero, reads a sum of zero
  pub sum_of_zero : ((n m : Name) (t u : Tree) → UnfoldsTo s n t → UnfoldsTo s m u
      → (n ≡ m) ↔ (t ≡ u)) → (z rest : Tree) → UnfoldsTo s zero z
      → UnfoldsTo s name (tree plus (one_more z (one_more rest no_more)))
      → (other : Name) × IsSum s plus name zero other × UnfoldsTo s other rest
  sum_of_zero tell z rest zeros is =
      let parts = forest_two s z rest (arguments is.0) is.3 in
      let first = (tell parts.0 zero z z parts.3 zeros).1 refl in
      let args = parts.2 ∙ ap (λ n. n ∷ parts.1 ∷ []) first in
      (parts.1, record { term = is.0; read = is.1; head = is.2; args = args }, parts.4)
