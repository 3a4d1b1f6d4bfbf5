-- What a list of places in the order of their births has after a change, and what a search in it
-- finds.
use Rattle.std.proofs.Common.{◌≡◌, ◌≢◌, ◌⊎◌, inl, inr, ℕ, zero, suc, ◌<◌, ◌≤◌, Bool, true, false, cond, List, [], ◌∷◌, ◌++◌, length, get_or, Option, Some, None, IsSome, is_some, Result, Ok, Err, IfOk, IfErr, nat_eq, refl, sym, ap, ◌∙◌, arith}
use Rattle.std.specs.Prelude.{slice_index}
use Rattle.std.specs.List.{filter, list_any}
use Rattle.std.specs.List.Sorted.{IsSearchInRange, IsBinarySearchResult, IsNonDecreasingBy}
use Rattle.std.specs.Ordering.{nat_cmp, ordering_index}
use Rattle.std.proofs.lemmas.Bool.{cases_eq, eq-eqb, eqb-true, or_left, or_right, or_cases}
use Rattle.std.proofs.lemmas.Bool.Decides.{nat_tests}
use Rattle.std.proofs.lemmas.Cmp.{ranked}
use Rattle.std.proofs.lemmas.List.Folds.{list_any-append}
use Rattle.std.proofs.lemmas.List.Sorted.{IsNonDecreasingBy-from_default}
use Rattle.intern_index.specs.Ordered.{IsOrder, birth_or_zero}

-- births are listed where they are in no row
pub no_row : {X : Type 0} (row : Option X) → is_some row ≡ false → row ≡ None
no_row None is = refl
no_row (Some r) is = absurd (cc)

-- what is at each index of a list with one more at its end
pushed : (xs : List ℕ) (x i : ℕ) → i < length (xs ++ x ∷ []) → ((i < length xs) × (slice_index (xs ++ x ∷ []) i ≡ slice_index xs i)) ⊎ ((i ≡ length xs) × (slice_index (xs ++ x ∷ []) i ≡ x))
pushed [] x zero lt = inr (refl, refl)
pushed [] x (suc i) lt = absurd (omega arith)
pushed (y ∷ ys) x zero lt = inl (omega arith, refl)
pushed (y ∷ ys) x (suc i) lt =
    elim (pushed ys x i (omega arith)) [
      | inl w ↦ inl (omega (arith, w.0), w.1)
      | inr w ↦ inr (ap suc w.0, w.1)
    ]

-- an element of a list is at an index of it
pub index_of : (xs : List ℕ) (x : ℕ) → list_any (nat_eq x) xs ≡ true → (i : ℕ) × (i < length xs) × (slice_index xs i ≡ x)
index_of [] x is = absurd (cc)
index_of (y ∷ ys) x is =
    elim (or_cases (nat_eq x y) (list_any (nat_eq x) ys) is) [
      | inl here ↦ (0, omega arith, sym (eqb-true x y here))
      | inr there ↦ let w = index_of ys x there in (suc w.0, omega (arith, w.1), w.2)
    ]

some_birth : (o : Option ℕ) (n : ℕ) → IsSome o → ((b : ℕ) → o ≡ Some b → b < n) → birth_or_zero o < n
some_birth None n some below = absurd (cc)
some_birth (Some b) n some below = below b refl

module _ (places : List ℕ) (old new : ℕ → Option ℕ) (order : IsOrder places old) where
  pub entered_order : (place birth : ℕ) → old place ≡ None → ((p b : ℕ) → old p ≡ Some b → b < birth) → new place ≡ Some birth → ((p : ℕ) → p ≢ place → new p ≡ old p) → IsOrder (places ++ place ∷ []) new
  entered_order place birth vacant below entered others = record {
    there = λ i lt. there i (pushed places place i lt);
    rising = λ i j less lt. rising i j less (pushed places place i (omega arith)) (pushed places place j lt);
    listed = λ p b is.
        list_any-append (nat_eq p) places (place ∷ [])
        ∙ elim (cases_eq p place) [
          | inl here ↦ or_right (list_any (nat_eq p) places) _ (or_left (nat_eq p place) false (eq-eqb p place here))
          | inr differs ↦ or_left (list_any (nat_eq p) places) _ (order.listed p b (sym (others p differs) ∙ is))
        ];
  }
    where
      -- a place that is listed keeps its birth
      same : (i : ℕ) → i < length places → new (slice_index places i) ≡ old (slice_index places i)
      same i lt = others (slice_index places i) (λ is. let some = order.there i lt in let none = ap is_some (ap old is ∙ vacant) in absurd (cc))

      there : (i : ℕ) → ((i < length places) × (slice_index (places ++ place ∷ []) i ≡ slice_index places i)) ⊎ ((i ≡ length places) × (slice_index (places ++ place ∷ []) i ≡ place)) → IsSome (new (slice_index (places ++ place ∷ []) i))
      there i (inl w) = ap is_some (ap new w.1 ∙ same i w.0) ∙ order.there i w.0
      there i (inr w) = ap is_some (ap new w.1 ∙ entered)

      rising : (i j : ℕ) → i < j → ((i < length places) × (slice_index (places ++ place ∷ []) i ≡ slice_index places i)) ⊎ ((i ≡ length places) × (slice_index (places ++ place ∷ []) i ≡ place))
          → ((j < length places) × (slice_index (places ++ place ∷ []) j ≡ slice_index places j)) ⊎ ((j ≡ length places) × (slice_index (places ++ place ∷ []) j ≡ place))
          → birth_or_zero (new (slice_index (places ++ place ∷ []) i)) < birth_or_zero (new (slice_index (places ++ place ∷ []) j))
      rising i j less (inl v) (inl w) =
          let low = ap birth_or_zero (ap new v.1 ∙ same i v.0) in
          let high = ap birth_or_zero (ap new w.1 ∙ same j w.0) in
          let is = order.rising i j less w.0 in
          omega arith
      rising i j less (inl v) (inr w) =
          let low = ap birth_or_zero (ap new v.1 ∙ same i v.0) in
          let high = ap birth_or_zero (ap new w.1 ∙ entered) in
          let is = some_birth (old (slice_index places i)) birth (order.there i v.0) (below (slice_index places i)) in
          omega arith
      rising i j less (inr v) (inl w) = let end = v.0 in let within = w.0 in absurd (omega arith)
      rising i j less (inr v) (inr w) = let end = v.0 in let too = w.0 in absurd (omega arith)

-- what holds of each element holds of those that pass a test
filtered_all : (P : ℕ → Type 0) (f : ℕ → Bool) (xs : List ℕ) → ((i : ℕ) → i < length xs → P (slice_index xs i)) → (i : ℕ) → i < length (filter f xs) → P (slice_index (filter f xs) i)
filtered_all P f [] all = λ i lt. absurd (omega arith)
filtered_all P f (x ∷ xs) all = go (f x) (filtered_all P f xs (λ i lt. all (suc i) (omega arith)))
  where
    go : (t : Bool) → ((i : ℕ) → i < length (filter f xs) → P (slice_index (filter f xs) i)) → (i : ℕ) → i < length (cond t (x ∷ filter f xs) (filter f xs)) → P (slice_index (cond t (x ∷ filter f xs) (filter f xs)) i)
    go true rest zero lt = all 0 (omega arith)
    go true rest (suc i) lt = rest i (omega arith)
    go false rest i lt = rest i lt

-- each element that passes a test passes it
filtered_pass : (f : ℕ → Bool) (xs : List ℕ) (i : ℕ) → i < length (filter f xs) → f (slice_index (filter f xs) i) ≡ true
filtered_pass f [] i lt = absurd (omega arith)
filtered_pass f (x ∷ xs) i lt = go (f x) refl (filtered_pass f xs) i lt
  where
    go : (t : Bool) → f x ≡ t → ((i : ℕ) → i < length (filter f xs) → f (slice_index (filter f xs) i) ≡ true) → (i : ℕ) → i < length (cond t (x ∷ filter f xs) (filter f xs)) → f (slice_index (cond t (x ∷ filter f xs) (filter f xs)) i) ≡ true
    go true t rest zero lt = t
    go true t rest (suc i) lt = rest i (omega arith)
    go false t rest i lt = rest i lt

-- what rises still does where some are left out
filtered_rises : (k : ℕ → ℕ) (f : ℕ → Bool) (xs : List ℕ) → ((i j : ℕ) → i < j → j < length xs → k (slice_index xs i) < k (slice_index xs j))
    → (i j : ℕ) → i < j → j < length (filter f xs) → k (slice_index (filter f xs) i) < k (slice_index (filter f xs) j)
filtered_rises k f [] rises = λ i j less lt. absurd (omega arith)
filtered_rises k f (x ∷ xs) rises = go (f x) (filtered_rises k f xs (λ i j less lt. rises (suc i) (suc j) (omega arith) (omega arith)))
  where
    above : (i : ℕ) → i < length (filter f xs) → k x < k (slice_index (filter f xs) i)
    above = filtered_all (λ y. k x < k y) f xs (λ i lt. rises 0 (suc i) (omega arith) (omega arith))

    go : (t : Bool) → ((i j : ℕ) → i < j → j < length (filter f xs) → k (slice_index (filter f xs) i) < k (slice_index (filter f xs) j))
        → (i j : ℕ) → i < j → j < length (cond t (x ∷ filter f xs) (filter f xs)) → k (slice_index (cond t (x ∷ filter f xs) (filter f xs)) i) < k (slice_index (cond t (x ∷ filter f xs) (filter f xs)) j)
    go true rest zero zero less lt = absurd (omega arith)
    go true rest zero (suc j) less lt = above j (omega arith)
    go true rest (suc i) zero less lt = absurd (omega arith)
    go true rest (suc i) (suc j) less lt = rest i j (omega arith) (omega arith)
    go false rest i j less lt = rest i j less lt

-- what is found is still found among those that pass, where it passes
filtered_any : (x : ℕ) (f : ℕ → Bool) (xs : List ℕ) → f x ≡ true → list_any (nat_eq x) xs ≡ true → list_any (nat_eq x) (filter f xs) ≡ true
filtered_any x f [] passes is = is
filtered_any x f (y ∷ ys) passes is = go (f y) refl (or_cases (nat_eq x y) (list_any (nat_eq x) ys) is) (filtered_any x f ys passes)
  where
    go : (t : Bool) → f y ≡ t → (nat_eq x y ≡ true) ⊎ (list_any (nat_eq x) ys ≡ true) → (list_any (nat_eq x) ys ≡ true → list_any (nat_eq x) (filter f ys) ≡ true)
        → list_any (nat_eq x) (cond t (y ∷ filter f ys) (filter f ys)) ≡ true
    go true t (inl here) rest = or_left (nat_eq x y) _ here
    go true t (inr there) rest = or_right (nat_eq x y) _ (rest there)
    go false t (inl here) rest = let no = ap f (eqb-true x y here) in absurd (cc)
    go false t (inr there) rest = rest there

pub left_order : (places : List ℕ) (old new : ℕ → Option ℕ) → IsOrder places old → ((p b : ℕ) → new p ≡ Some b → old p ≡ Some b) → (occupied : ℕ → Bool) → ((p : ℕ) → occupied p ≡ is_some (new p)) → IsOrder (filter occupied places) new
left_order places old new order was occupied is = record {
  there = λ i lt. sym (is (slice_index (filter occupied places) i)) ∙ filtered_pass occupied places i lt;
  rising = λ i j less lt.
      let low = same (slice_index (filter occupied places) i) (filtered_pass occupied places i (omega arith)) in
      let high = same (slice_index (filter occupied places) j) (filtered_pass occupied places j lt) in
      let rises = filtered_rises (λ p. birth_or_zero (old p)) occupied places order.rising i j less lt in
      omega arith;
  listed = λ p b at. filtered_any p occupied places (is p ∙ ap is_some at) (order.listed p b (was p b at));
}
  where
    same : (p : ℕ) → occupied p ≡ true → birth_or_zero (new p) ≡ birth_or_zero (old p)
    same p passes = go (new p) refl
      where
        go : (o : Option ℕ) → new p ≡ o → birth_or_zero (new p) ≡ birth_or_zero (old p)
        go None at = let no = is p ∙ ap is_some at in absurd (cc)
        go (Some b) at = ap birth_or_zero (at ∙ sym (was p b at))

-- a binary search ends at the place of the birth, or no place has it
module _ (places : List ℕ) (at : ℕ → Option ℕ) (order : IsOrder places at) (b : ℕ) where
  key : ℕ → ℕ
  key p = birth_or_zero (at p)

  comparisons_rise : IsNonDecreasingBy (λ p. ordering_index (nat_cmp (birth_or_zero (at p)) b)) places
  comparisons_rise = IsNonDecreasingBy-from_default (λ p. ordering_index (nat_cmp (birth_or_zero (at p)) b)) places 0 (λ i j le in_range.
      let rise : birth_or_zero (at (get_or places i 0)) ≤ birth_or_zero (at (get_or places j 0)) = grind (arith, order.rising i j, λ (is : i ≡ j). ap (λ k. birth_or_zero (at (get_or places k 0))) is) in
      grind (arith, nat_tests))

  pub searched : (r : Result ℕ ℕ) → IsSearchInRange r (length places) → IsBinarySearchResult (λ p. nat_cmp (birth_or_zero (at p)) b) places r
      → record { found : IfOk r (λ i. at (slice_index places i) ≡ Some b); absent : IfErr r (λ _. (p : ℕ) → at p ≢ Some b) }
  searched (Ok i) in_range equal = record {
    found = some (at (slice_index places i)) (order.there i in_range) (ranked _ b _ (sym (equal 0)));
    absent = tt;
  }
    where
      some : (o : Option ℕ) → IsSome o → birth_or_zero o ≡ b → o ≡ Some b
      some None is same = absurd (cc)
      some (Some c) is same = ap Some same
  searched (Err i) in_range parted = record {
    found = tt;
    absent = λ p is.
        let w = index_of places p (order.listed p b is) in
        let has = ap birth_or_zero (ap at w.2 ∙ is) in
        let parts = parted comparisons_rise in
        let within = w.1 in
        grind (arith, λ (less : w.0 < i). ranked _ b _ (sym (parts.0 w.0 0 (omega arith) less)), λ (more : i ≤ w.0). ranked _ b _ (sym (parts.1 w.0 0 more within)));
  }

-- what a slice gives at an index does not rest on the default
pub at_index : (xs : List ℕ) (i d : ℕ) → i < length xs → get_or xs i d ≡ slice_index xs i
at_index [] i d lt = absurd (omega arith)
at_index (x ∷ xs) zero d lt = refl
at_index (x ∷ xs) (suc i) d lt = at_index xs i d (omega arith)
