-- Lists that rise.
use Rattle.std.proofs.Common.{◌≡◌, ℕ, zero, suc, ◌<◌, Bool, true, ◌&&◌, List, [], ◌∷◌, length, get_or, Some, slice_get, refl, sym, subst, arith, add-one, inl, inr, ◌⊎◌, Ordering, true≢false}
use Rattle.std.proofs.lemmas.Bool.{and_parts, cases_order}
use Rattle.std.proofs.lemmas.Map.Keys.{Less-from_sorted, sorted_from_all_adjacent}
use Rattle.std.proofs.lemmas.Option.{slice_get_within, get_or_from_slice_get}
use Rattle.std.proofs.lemmas.Cmp.{tied_itself}
use Rattle.std.specs.declared.cmp.Ordering.TheVariants.{Less, Equal, Greater}
use Rattle.std.specs.Ordering.{is_lt}
use Rattle.std.specs.Cmp.{IsTotalOrder}
use Rattle.std.specs.List.Sorted.{IsStrictlySortedBy}

less : (o : Ordering) → is_lt o ≡ true → o ≡ Less
less Less h = refl
less Equal h = absurd (true≢false (sym h))
less Greater h = absurd (true≢false (sym h))

module _ {K : Type 0} (R : K → K → Ordering) where
  -- x stands before the first
  abbrev pub starts_above : K → List K → Bool
  starts_above x [] = true
  starts_above x (y ∷ ys) = is_lt (R x y)

  -- each stands before the next
  abbrev pub each_below_next : List K → Bool
  each_below_next [] = true
  each_below_next (x ∷ xs) = starts_above x xs && each_below_next xs

  adjacent : (xs : List K) → each_below_next xs ≡ true → (d : K) (k : ℕ) → suc k < length xs → R (get_or xs k d) (get_or xs (suc k) d) ≡ Less
  adjacent [] h d k lt = absurd (omega (arith, lt))
  adjacent (x ∷ []) h d k lt = absurd (omega (arith, lt))
  adjacent (x ∷ (y ∷ ys)) h d zero lt = less (R x y) (and_parts (is_lt (R x y)) (each_below_next (y ∷ ys)) h).0
  adjacent (x ∷ (y ∷ ys)) h d (suc k) lt = adjacent (y ∷ ys) (and_parts (is_lt (R x y)) (each_below_next (y ∷ ys)) h).1 d k (omega (arith, lt))

  module _ (o : IsTotalOrder R) where
    -- a list in which each stands before the next rises
    pub sorted_from_test : (xs : List K) → each_below_next xs ≡ true → IsStrictlySortedBy R xs
    unfolding IsStrictlySortedBy
    sorted_from_test [] h = tt
    sorted_from_test (x ∷ xs) h =
        sorted_from_all_adjacent o (x ∷ xs) x (λ k lt. subst (λ n. R (get_or (x ∷ xs) k x) (get_or (x ∷ xs) n x) ≡ Less) (sym (add-one k)) (adjacent (x ∷ xs) h x k (omega (arith, lt))))

    not_twice : (xs : List K) → IsStrictlySortedBy R xs → (x : K) (i j : ℕ) → slice_get xs i ≡ Some x → slice_get xs j ≡ Some x → i < j → ⊥
    not_twice xs up x i j at_i at_j lt =
        let below = Less-from_sorted R xs i j x up lt (slice_get_within xs j x at_j) in
        let same : R x x ≡ Less = subst (λ a. R a x ≡ Less) (get_or_from_slice_get xs i x x at_i) (subst (λ b. R (get_or xs i x) b ≡ Less) (get_or_from_slice_get xs j x x at_j) below) in
        absurd (cc (same, tied_itself o x))

    -- no element stands at two places of a list that rises
    pub one_index : (xs : List K) → IsStrictlySortedBy R xs → (x : K) (i j : ℕ) → slice_get xs i ≡ Some x → slice_get xs j ≡ Some x → i ≡ j
    one_index xs up x i j at_i at_j = by (cases_order i j)
      where
        by : (i ≡ j) ⊎ ((i < j) ⊎ (j < i)) → i ≡ j
        by (inl same) = same
        by (inr (inl lt)) = absurd (not_twice xs up x i j at_i at_j lt)
        by (inr (inr lt)) = absurd (not_twice xs up x j i at_j at_i lt)
