-- The entries of a map as a list, in whatever order.
use Rattle.std.proofs.Common.{◌≡◌, ℕ, List, [], ◌∷◌, None, Less, Equal, Greater, refl, sym, subst, ◌∙◌, arith}
use Rattle.std.specs.Prelude.{IsPermutation}
use Rattle.std.specs.Ordering.{nat_cmp}
use Rattle.std.specs.Cmp.{nat_cmp_total}
use Rattle.std.specs.FinMap.{FinMap, get, insert, entries, find, get-entries, entries-insert}
use Rattle.std.specs.FinMap.Entries.{put, by_order}
use Rattle.std.proofs.lemmas.List.Sorted.{IsPermutation-refl, IsPermutation-sym, IsPermutation-trans, IsPermutation-cons, IsPermutation-middle}

module _ {X : Type 0} where
  -- an entry that is put among others, none of which has its key
  put_fresh : (b : ℕ) (x : X) (es : List (ℕ × X)) → find nat_cmp b es ≡ None → IsPermutation ((b, x) ∷ es) (put nat_cmp b x es)
  put_fresh b x [] none = IsPermutation-refl _
  put_fresh b x (e ∷ es) none =
      elim (nat_cmp b e.0) as (λ o. nat_cmp b e.0 ≡ o → IsPermutation ((b, x) ∷ e ∷ es) (by_order o ((b, x) ∷ e ∷ es) ((e.0, x) ∷ es) (e ∷ put nat_cmp b x es))) [
        | Less ↦ λ p. IsPermutation-refl _
        | Equal ↦ λ p. absurd (grind arith)
        | Greater ↦ λ p.
            let rest : find nat_cmp b es ≡ None = grind arith in
            IsPermutation-trans _ _ _ (IsPermutation-sym _ _ (IsPermutation-middle (e ∷ []) (b, x) es)) (IsPermutation-cons e _ _ (put_fresh b x es rest))
      ] refl

  -- the entries of a map with a new one are the others and this one
  pub inserted_fresh : (m : FinMap nat_cmp X) (b : ℕ) (x : X) → get m b ≡ None → IsPermutation ((b, x) ∷ entries m) (entries (insert m b x))
  inserted_fresh m b x none =
      subst (IsPermutation ((b, x) ∷ entries m)) (sym (entries-insert nat_cmp_total m b x)) (put_fresh b x (entries m) (sym (get-entries m b) ∙ none))
