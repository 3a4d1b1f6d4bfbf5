-- The places that have an entry are in the order of births where these are in row, and the next of
-- them is found from the one before.
use Rattle.std.proofs.Common.{◌≡◌, ◌⊎◌, inl, inr, ℕ, zero, suc, ◌+◌, ◌^◌, ◌<◌, ◌≤◌, true, List, [], ◌∷◌, length, get_or, Option, Some, None, IsSome, is_some, IfSome, IfNone, nat_eq, refl, sym, ap, subst, ◌∙◌, arith, add-zero}
use Rattle.std.specs.Prelude.{slice_index, map as list_map}
use Rattle.std.specs.List.{list_any, slice_get}
use Rattle.std.specs.Option.{option_map}
use Rattle.std.proofs.lemmas.Bool.{eq-eqb, or_left, or_right}
use Rattle.slab.specs.Slab.{Slab, get, entries_from, entries as slab_entries}
use Rattle.intern_index.specs.Entries.{birth_at, AreTold}
use Rattle.intern_index.specs.Ordered.{IsOrder, birth_or_zero, place_before, place_after}
use Rattle.intern_index.specs.declared.entry.Entry.{Entry}
use Rattle.intern_index.proofs.Orders.{index_of}

module _ {X : Type 0} where
  -- the places of slots that have something, the first of which has this place
  abbrev pub occupied_from : ℕ → List (Option X) → List ℕ
  occupied_from first slots = list_map (λ e. e.0) (entries_from first slots)

  abbrev pub occupied : Slab X → List ℕ
  occupied s = list_map (λ e. e.0) (slab_entries s)

  -- none is before the first
  above_first : (first : ℕ) (slots : List (Option X)) (i : ℕ) → i < length (occupied_from first slots) → first ≤ slice_index (occupied_from first slots) i
  above_first first [] i lt = absurd (omega arith)
  above_first first (None ∷ slots) i lt = let above = above_first (first + 1) slots i lt in omega arith
  above_first first (Some x ∷ slots) zero lt = omega arith
  above_first first (Some x ∷ slots) (suc i) lt = let above = above_first (first + 1) slots i (omega arith) in omega arith

  rises_from : (first : ℕ) (slots : List (Option X)) (i j : ℕ) → i < j → j < length (occupied_from first slots) → slice_index (occupied_from first slots) i < slice_index (occupied_from first slots) j
  rises_from first [] i j less lt = absurd (omega arith)
  rises_from first (None ∷ slots) i j less lt = rises_from (first + 1) slots i j less lt
  rises_from first (Some x ∷ slots) i zero less lt = absurd (omega arith)
  rises_from first (Some x ∷ slots) zero (suc j) less lt = let above = above_first (first + 1) slots j (omega arith) in omega arith
  rises_from first (Some x ∷ slots) (suc i) (suc j) less lt = rises_from (first + 1) slots i j (omega arith) (omega arith)

  there_from : (first : ℕ) (slots : List (Option X)) (i : ℕ) → i < length (occupied_from first slots) → (p : ℕ) × (first + p ≡ slice_index (occupied_from first slots) i) × IsSome (get_or slots p None)
  there_from first [] i lt = absurd (omega arith)
  there_from first (None ∷ slots) i lt = let w = there_from (first + 1) slots i lt in (suc w.0, omega (arith, w.1), w.2)
  there_from first (Some x ∷ slots) zero lt = (0, add-zero first, refl)
  there_from first (Some x ∷ slots) (suc i) lt = let w = there_from (first + 1) slots i (omega arith) in (suc w.0, omega (arith, w.1), w.2)

  listed_from : (first : ℕ) (slots : List (Option X)) (p : ℕ) → IsSome (get_or slots p None) → list_any (nat_eq (first + p)) (occupied_from first slots) ≡ true
  listed_from first [] p some = absurd (cc)
  listed_from first (None ∷ slots) zero some = absurd (cc)
  listed_from first (None ∷ slots) (suc p) some =
      let same : first + 1 + p ≡ first + suc p = omega arith in
      ap (λ n. list_any (nat_eq n) (occupied_from (first + 1) slots)) (sym same) ∙ listed_from (first + 1) slots p some
  listed_from first (Some x ∷ slots) zero some = or_left (nat_eq (first + 0) first) _ (eq-eqb (first + 0) first (add-zero first))
  listed_from first (Some x ∷ slots) (suc p) some =
      let same : first + 1 + p ≡ first + suc p = omega arith in
      or_right (nat_eq (first + suc p) first) _ (ap (λ n. list_any (nat_eq n) (occupied_from (first + 1) slots)) (sym same) ∙ listed_from (first + 1) slots p some)

  module _ (s : Slab X) where
    pub occupied_rises : (i j : ℕ) → i < j → j < length (occupied s) → slice_index (occupied s) i < slice_index (occupied s) j
    occupied_rises = rises_from 0 s.slots

    pub occupied_there : (i : ℕ) → i < length (occupied s) → IsSome (get s (slice_index (occupied s) i))
    occupied_there i lt = let w = there_from 0 s.slots i lt in let same : w.0 ≡ slice_index (occupied s) i = omega (arith, w.1) in ap (λ p. is_some (get s p)) (sym same) ∙ w.2

    pub occupied_listed : (p : ℕ) → IsSome (get s p) → list_any (nat_eq p) (occupied s) ≡ true
    occupied_listed p some = let same : 0 + p ≡ p = omega arith in ap (λ n. list_any (nat_eq n) (occupied s)) (sym same) ∙ listed_from 0 s.slots p some

-- a rank that is within a list is told, and one behind it isn't
slice_at : (xs : List ℕ) (i : ℕ) → i < length xs → slice_get xs i ≡ Some (slice_index xs i)
slice_at [] i lt = absurd (omega arith)
slice_at (x ∷ xs) zero lt = refl
slice_at (x ∷ xs) (suc i) lt = slice_at xs i (omega arith)

slice_past : (xs : List ℕ) (i : ℕ) → length xs ≤ i → slice_get xs i ≡ None
slice_past [] i past = refl
slice_past (x ∷ xs) zero past = absurd (omega arith)
slice_past (x ∷ xs) (suc i) past = slice_past xs i (omega arith)

module _ {X : Type 0} (s : Slab X) (small : (p : ℕ) → IsSome (get s p) → p + 1 < 2 ^ 48) (n : ℕ) (before : Option ℕ) (within : n ≤ length (occupied s)) (is : before ≡ place_before (occupied s) n) where
  -- what is at a rank below lies before there, and what is at the rank or above lies behind
  below_from : (i : ℕ) → i < n → slice_index (occupied s) i < place_after before
  below_from i less = go n refl
    where
      go : (k : ℕ) → n ≡ k → slice_index (occupied s) i < place_after before
      go zero none = absurd (omega arith)
      go (suc k) same =
          let at = is ∙ ap (place_before (occupied s)) same ∙ slice_at (occupied s) k (omega arith) in
          let from = ap place_after at in
          let fits = small (slice_index (occupied s) k) (occupied_there s k (omega arith)) in
          elim (either i k (omega arith)) [
            | inl lower ↦ let rises = occupied_rises s i k lower (omega arith) in omega arith
            | inr here ↦ let last = ap (slice_index (occupied s)) here in omega arith
          ]
        where
          either : (i k : ℕ) → i < suc k → (i < k) ⊎ (i ≡ k)
          either zero zero lt = inr refl
          either zero (suc k) lt = inl (omega arith)
          either (suc i) zero lt = absurd (omega arith)
          either (suc i) (suc k) lt =
              elim (either i k (omega arith)) [
                | inl lower ↦ inl (omega arith)
                | inr same ↦ inr (ap suc same)
              ]

  from_at : n < length (occupied s) → place_after before ≤ slice_index (occupied s) n
  from_at lt = go n refl
    where
      go : (k : ℕ) → n ≡ k → place_after before ≤ slice_index (occupied s) n
      go zero none = let from = ap place_after (is ∙ ap (place_before (occupied s)) none) in omega arith
      go (suc k) same =
          let at = is ∙ ap (place_before (occupied s)) same ∙ slice_at (occupied s) k (omega arith) in
          let from = ap place_after at in
          let rises = occupied_rises s k n (omega arith) lt in
          omega arith

  -- the first place from there on that has something is that of the rank
  pub next_ranked : (p : ℕ) → IsSome (get s p) → place_after before ≤ p → ((q : ℕ) → place_after before ≤ q → q < p → get s q ≡ None) → Some p ≡ slice_get (occupied s) n
  next_ranked p some from first =
      let w = index_of (occupied s) p (occupied_listed s p some) in
      elim (compared w.0 n) [
        | inl (inl lower) ↦ let below = below_from w.0 lower in absurd (omega (arith, w.2))
        | inl (inr same) ↦ ap Some (sym w.2 ∙ ap (slice_index (occupied s)) same) ∙ sym (slice_at (occupied s) n (omega (arith, w.1, same)))
        | inr higher ↦
            let lt : n < length (occupied s) = omega (arith, w.1) in
            let rises = occupied_rises s n w.0 higher w.1 in
            let none = first (slice_index (occupied s) n) (from_at lt) (omega (arith, w.2)) in
            let there = occupied_there s n lt in
            absurd (cc)
      ]
    where
      compared : (i n : ℕ) → ((i < n) ⊎ (i ≡ n)) ⊎ (n < i)
      compared zero zero = inl (inr refl)
      compared zero (suc n) = inl (inl (omega arith))
      compared (suc i) zero = inr (omega arith)
      compared (suc i) (suc n) =
          elim (compared i n) [
            | inl (inl lower) ↦ inl (inl (omega arith))
            | inl (inr same) ↦ inl (inr (ap suc same))
            | inr higher ↦ inr (omega arith)
          ]

  -- and where there is none, no entry has the rank
  pub none_ranked : ((q : ℕ) → place_after before ≤ q → get s q ≡ None) → None ≡ slice_get (occupied s) n
  none_ranked none =
      elim (cases n (length (occupied s))) [
        | inl lt ↦ let no = none (slice_index (occupied s) n) (from_at lt) in let there = occupied_there s n lt in absurd (cc)
        | inr past ↦ sym (slice_past (occupied s) n past)
      ]
    where
      cases : (i n : ℕ) → (i < n) ⊎ (n ≤ i)
      cases i zero = inr (omega arith)
      cases zero (suc n) = inl (omega arith)
      cases (suc i) (suc n) =
          elim (cases i n) [
            | inl less ↦ inl (omega arith)
            | inr more ↦ inr (omega arith)
          ]

  -- either way
  pub ranked_next : (from : ℕ) → from ≡ place_after before → (r : Option ℕ) → IfSome r (λ p. IsSome (get s p)) → IfSome r (λ p. from ≤ p) → IfSome r (λ p. (q : ℕ) → from ≤ q → q < p → get s q ≡ None)
      → IfNone r ((q : ℕ) → from ≤ q → get s q ≡ None) → r ≡ slice_get (occupied s) n
  ranked_next from after None there behind first none = none_ranked (λ q at. none q (subst (λ k. k ≤ q) (sym after) at))
  ranked_next from after (Some p) there behind first none = next_ranked p there (subst (λ k. k ≤ p) after behind) (λ q at less. first q (subst (λ k. k ≤ q) (sym after) at) less)

-- births in row are in the order of their places
module _ {T N : Type 0} (s : Slab (Entry T N)) where
  birth_there : (p : ℕ) → IsSome (get s p) → (b : ℕ) × (birth_at s p ≡ Some b)
  birth_there p some = go (get s p) refl some
    where
      go : (o : Option (Entry T N)) → get s p ≡ o → IsSome o → (b : ℕ) × (birth_at s p ≡ Some b)
      go None at some = absurd (cc)
      go (Some e) at some = (e.birth, ap (option_map (λ (e : Entry T N). e.birth)) at)

  -- buckets tell the places of all entries apart
  pub some_told : AreTold s → (p : ℕ) → IsSome (get s p) → p + 1 < 2 ^ 48
  some_told told p some = let w = birth_there p some in told p w.0 w.1

  some_there : (p b : ℕ) → birth_at s p ≡ Some b → IsSome (get s p)
  some_there p b at = go (get s p) refl
    where
      go : (o : Option (Entry T N)) → get s p ≡ o → IsSome (get s p)
      go None none = let no = sym (ap (option_map (λ (e : Entry T N). e.birth)) none) ∙ at in absurd (cc)
      go (Some e) there = ap is_some there

  pub row_order : (shift : ℕ) → ((p b : ℕ) → birth_at s p ≡ Some b → p + shift ≡ b) → IsOrder (occupied s) (birth_at s)
  row_order shift in_row = record {
    there = λ i lt. let w = birth_there (slice_index (occupied s) i) (occupied_there s i lt) in ap is_some w.1;
    rising = λ i j less lt.
        let low = birth_there (slice_index (occupied s) i) (occupied_there s i (omega arith)) in
        let high = birth_there (slice_index (occupied s) j) (occupied_there s j lt) in
        let rises = occupied_rises s i j less lt in
        omega (arith, in_row _ _ low.1, in_row _ _ high.1, ap birth_or_zero low.1, ap birth_or_zero high.1);
    listed = λ p b at. occupied_listed s p (some_there p b at);
  }
