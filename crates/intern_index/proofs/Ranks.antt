-- The births at places that are in the order of their births are the keys of the map, in its order.
use Rattle.std.proofs.Common.{◌≡◌, ◌≢◌, ◌⊎◌, inl, inr, ℕ, zero, suc, ◌<◌, ◌≤◌, Bool, true, false, List, [], ◌∷◌, length, map, Option, Some, None, IsSome, is_some, nat_eq, refl, sym, ap, subst, ◌∙◌, arith}
use Rattle.std.specs.Prelude.{T, slice_index}
use Rattle.std.specs.List.{slice_get, list_any}
use Rattle.std.specs.Option.{option_map}
use Rattle.std.specs.Ordering.{nat_cmp}
use Rattle.std.specs.FinMap.{FinMap, get as map_get, get-entries, entries, entries_sorted, is_sorted, find, len, len-entries, keys, contains_key-keys}
use Rattle.std.specs.FinMap.Entries.{below_all}
use Rattle.std.proofs.lemmas.Bool.{eq-eqb, eqb-true, or_left, or_right, or_cases}
use Rattle.std.proofs.lemmas.List.{length-map, get_or-map}
use Rattle.std.proofs.lemmas.List.Folds.{list_any_at}
use Rattle.std.proofs.lemmas.Option.{same_Some, slice_get-map, slice_get_within, get_or_from_slice_get}
use Rattle.slab.specs.Slab.{Slab, get}
use Rattle.intern_store.proofs.Compared.{tied}
use Rattle.intern_store.proofs.Sorted.{parts, less, at_head, later}
use Rattle.intern_store.specs.declared.names.Spot.{Spot}
use Rattle.intern_index.specs.IndexEntry.{IndexEntry, spot_of, spot_at, spot_before}
use Rattle.intern_index.specs.Entries.{held, birth_at}
use Rattle.intern_index.specs.Ordered.{IsOrder, birth_or_zero, place_before}
use Rattle.intern_index.specs.declared.entry.Entry.{Entry}
use Rattle.intern_index.proofs.Held.{IsApart, IsIn, IsOut, in_or_out, entry_there, birth_there, read_there}
use Rattle.intern_index.proofs.Orders.{index_of}

-- numbers that rise strictly
abbrev pub IsRising : List ℕ → Type 0
IsRising xs = (i j : ℕ) → i < j → j < length xs → slice_index xs i < slice_index xs j

abbrev pub contains : List ℕ → ℕ → Bool
contains xs x = list_any (nat_eq x) xs

rising_behind : (x : ℕ) (xs : List ℕ) → IsRising (x ∷ xs) → IsRising xs
rising_behind x xs rising i j less lt = rising (suc i) (suc j) (omega arith) (omega arith)

-- what is behind the head of such a list is above it
above_head : (x y : ℕ) (xs : List ℕ) → IsRising (x ∷ xs) → contains xs y ≡ true → x < y
above_head x y xs rising is =
    let w = index_of xs y is in
    let above = rising 0 (suc w.0) (omega arith) (omega (arith, w.1)) in
    subst (λ z. x < z) w.2 above

head_within : (x : ℕ) (xs : List ℕ) → contains (x ∷ xs) x ≡ true
head_within x xs = or_left (nat_eq x x) _ (eq-eqb x x refl)

within_cases : (x y : ℕ) (ys : List ℕ) → contains (y ∷ ys) x ≡ true → (x ≡ y) ⊎ (contains ys x ≡ true)
within_cases x y ys is =
    elim (or_cases (nat_eq x y) (contains ys x) is) [
      | inl here ↦ inl (eqb-true x y here)
      | inr behind ↦ inr behind
    ]

-- where each has the other's head, the heads are one
same_head : (x y : ℕ) (xs ys : List ℕ) → IsRising (x ∷ xs) → IsRising (y ∷ ys) → (x ≡ y) ⊎ (contains ys x ≡ true) → (y ≡ x) ⊎ (contains xs y ≡ true) → x ≡ y
same_head x y xs ys rising too (inl is) other = is
same_head x y xs ys rising too (inr behind) (inl is) = sym is
same_head x y xs ys rising too (inr behind) (inr before) = let above = above_head y x ys too behind in let below = above_head x y xs rising before in absurd (omega arith)

-- what is behind the head of one is behind the head of the other
behind_too : (x y : ℕ) (xs ys : List ℕ) → IsRising (x ∷ xs) → y ≡ x → (z : ℕ) → contains xs z ≡ true → (z ≡ y) ⊎ (contains ys z ≡ true) → contains ys z ≡ true
behind_too x y xs ys rising head z is (inl here) = let above = above_head x z xs rising is in absurd (omega arith)
behind_too x y xs ys rising head z is (inr there) = there

-- two strictly rising lists with the same elements are one list
pub same_rising : (xs ys : List ℕ) → IsRising xs → IsRising ys → ((x : ℕ) → contains xs x ≡ true → contains ys x ≡ true) → ((x : ℕ) → contains ys x ≡ true → contains xs x ≡ true) → xs ≡ ys
same_rising [] [] rising too to from = refl
same_rising [] (y ∷ ys) rising too to from = let no = from y (head_within y ys) in absurd (cc)
same_rising (x ∷ xs) [] rising too to from = let no = to x (head_within x xs) in absurd (cc)
same_rising (x ∷ xs) (y ∷ ys) rising too to from =
    let head = same_head x y xs ys rising too (within_cases x y ys (to x (head_within x xs))) (within_cases y x xs (from y (head_within y ys))) in
    let rest =
    same_rising xs ys (rising_behind x xs rising) (rising_behind y ys too)
    (λ z is. behind_too x y xs ys rising (sym head) z is (within_cases z y ys (to z (or_right (nat_eq z x) _ is))))
    (λ z is. behind_too y x ys xs too head z is (within_cases z x xs (from z (or_right (nat_eq z y) _ is)))) in
    ap (λ z. z ∷ xs) head ∙ ap (λ zs. y ∷ zs) rest

module _ {X : Type 0} where
  below_each : (x : ℕ) (es : List (ℕ × X)) → T (below_all nat_cmp x es) → (i : ℕ) → i < length (map (λ e. e.0) es) → x < slice_index (map (λ e. e.0) es) i
  below_each x [] below i lt = absurd (omega arith)
  below_each x (e ∷ es) below zero lt = less x e.0 (parts _ _ below).0
  below_each x (e ∷ es) below (suc i) lt = below_each x es (parts _ _ below).1 i (omega arith)

  -- the keys of entries in order rise
  keys_rise : (es : List (ℕ × X)) → T (is_sorted nat_cmp es) → IsRising (map (λ e. e.0) es)
  keys_rise [] sorted i j before lt = absurd (omega arith)
  keys_rise (e ∷ es) sorted i zero before lt = absurd (omega arith)
  keys_rise (e ∷ es) sorted zero (suc j) before lt = below_each e.0 es (parts _ _ sorted).0 j (omega arith)
  keys_rise (e ∷ es) sorted (suc i) (suc j) before lt = keys_rise es (parts _ _ sorted).1 i j (omega arith) (omega arith)

  -- what is at a rank is found under its key
  found_at : (at : ℕ) (e : ℕ × X) (es : List (ℕ × X)) → T (is_sorted nat_cmp es) → slice_get es at ≡ Some e → find nat_cmp e.0 es ≡ Some e.1
  found_at at e [] sorted is = absurd (cc)
  found_at zero e (f ∷ es) sorted is = subst (λ (x : ℕ × X). find nat_cmp x.0 (f ∷ es) ≡ Some x.1) (same_Some f e is) (at_head f es)
  found_at (suc n) e (f ∷ es) sorted is =
      let rest = parts _ _ sorted in
      later e.0 e.1 f es rest.0 (found_at n e es rest.1 is)

module _ {T N : Type 0} (s : Slab (Entry T N)) (apart : IsApart s) (m : FinMap nat_cmp (IndexEntry T N)) (view : held s.slots ≡ m) (places : List ℕ) (order : IsOrder places (birth_at s)) where
  abbrev birth_of : ℕ → ℕ
  birth_of p = birth_or_zero (birth_at s p)

  births_rise : IsRising (map birth_of places)
  births_rise i j before lt =
      let all = length-map places birth_of in
      let low = get_or-map birth_of places i 0 0 (omega arith) in
      let high = get_or-map birth_of places j 0 0 (omega arith) in
      let rises = order.rising i j before (omega arith) in
      omega arith

  -- a birth is at one of the places exactly where the map has it
  same_births : (b : ℕ) → contains (map birth_of places) b ≡ contains (keys m) b
  same_births b = go (in_or_out s.slots b) ∙ ap (λ n. is_some (map_get n b)) view ∙ contains_key-keys m b ∙ ap (λ f. list_any f (keys m)) (λ i k. tied b k i)
    where
      of_birth : (o : Option ℕ) → IsSome o → birth_or_zero o ≡ b → o ≡ Some b
      of_birth None is same = absurd (cc)
      of_birth (Some c) is same = ap Some same

      listed : (p : ℕ) → birth_at s p ≡ Some b → contains (map birth_of places) b ≡ true
      listed p is =
          let w = index_of places p (order.listed p b is) in
          list_any_at (nat_eq b) (map birth_of places) w.0 0 (omega (arith, w.1, length-map places birth_of))
          (eq-eqb b _ (sym (get_or-map birth_of places w.0 0 0 w.1 ∙ ap birth_of w.2 ∙ ap birth_or_zero is)))

      unlisted : ((p : ℕ) → birth_at s p ≢ Some b) → (t : Bool) → contains (map birth_of places) b ≡ t → contains (map birth_of places) b ≡ false
      unlisted none false is = is
      unlisted none true is =
          let w = index_of (map birth_of places) b is in
          let within : w.0 < length places = omega (arith, w.1, length-map places birth_of) in
          absurd (none (slice_index places w.0) (of_birth _ (order.there w.0 within) (sym (get_or-map birth_of places w.0 0 0 within) ∙ w.2)))

      go : IsIn 0 s.slots b ⊎ IsOut 0 s.slots b → contains (map birth_of places) b ≡ is_some (map_get (held s.slots) b)
      go (inl is) = listed is.place (birth_there s is.place b is.entry is.there is.birth) ∙ sym (ap is_some is.read)
      go (inr out) = unlisted (λ p is. let w = entry_there s p b is in out.none p w.0 w.1 w.2) _ refl ∙ sym (ap is_some out.read)

  births_are_keys : map birth_of places ≡ keys m
  births_are_keys = same_rising (map birth_of places) (keys m) births_rise (keys_rise (entries m) (entries_sorted m)) (λ b is. sym (same_births b) ∙ is) (λ b is. same_births b ∙ is)

  -- the birth at the place of a rank is the key of that rank
  birth_ranked : (at : ℕ) → option_map birth_of (slice_get places at) ≡ option_map (λ e. e.0) (slice_get (entries m) at)
  birth_ranked at = sym (slice_get-map birth_of places at) ∙ ap (λ bs. slice_get bs at) births_are_keys ∙ slice_get-map (λ e. e.0) (entries m) at

  -- and an entry is there
  pub ranked_there : (at p : ℕ) → slice_get places at ≡ Some p → IsSome (get s p)
  ranked_there at p is =
      entry_of (get s p) (ap (λ q. is_some (birth_at s q)) (sym (get_or_from_slice_get places at p 0 is)) ∙ order.there at (slice_get_within places at p is))
    where
      entry_of : (o : Option (Entry T N)) → IsSome (option_map (λ e. e.birth) o) → IsSome o
      entry_of None none = none
      entry_of (Some e) some = refl

  -- there are as many places as entries
  ranked_length : len m ≡ length places
  ranked_length = len-entries m ∙ sym (length-map (entries m) (λ e. e.0)) ∙ sym (ap length births_are_keys) ∙ length-map places birth_of

  -- the spot of a rank
  pub ranked_spot : (at p : ℕ) (e : Entry T N) → slice_get places at ≡ Some p → get s p ≡ Some e → Some (record { birth = e.birth; place = p }) ≡ spot_at m at
  ranked_spot at p e is there = go (slice_get (entries m) at) refl
    where
      birth : Some e.birth ≡ option_map (λ e. e.0) (slice_get (entries m) at)
      birth = sym (ap (λ o. Some (birth_or_zero (option_map (λ (e : Entry T N). e.birth) o))) there) ∙ ap (option_map birth_of) (sym is) ∙ birth_ranked at

      go : (o : Option (ℕ × IndexEntry T N)) → slice_get (entries m) at ≡ o → Some (record { birth = e.birth; place = p }) ≡ option_map spot_of o
      go None none = let no = birth ∙ ap (option_map (λ e. e.0)) none in absurd (cc)
      go (Some r) some =
          let key : e.birth ≡ r.0 = same_Some _ _ (birth ∙ ap (option_map (λ e. e.0)) some) in
          let had = sym (ap (λ n. map_get n e.birth) (sym view) ∙ read_there s apart p e there) ∙ ap (map_get m) key ∙ get-entries m r.0 ∙ found_at at r (entries m) (entries_sorted m) some in
          let seen_is = same_Some _ _ had in
          ap (λ b. Some (record { birth = b; place = p })) key ∙ ap (λ (x : IndexEntry T N). Some (record { birth = r.0; place = x.place })) seen_is

  pub ranked_none : (at : ℕ) → slice_get places at ≡ None → None ≡ spot_at m at
  ranked_none at is = go (slice_get (entries m) at) (sym (ap (option_map birth_of) is) ∙ birth_ranked at)
    where
      go : (o : Option (ℕ × IndexEntry T N)) → None ≡ option_map (λ e. e.0) o → None ≡ option_map spot_of o
      go None none = refl
      go (Some r) none = absurd (cc)

  -- the place of the rank before
  ranked_before : (at : ℕ) → option_map (λ (s : Spot). s.place) (spot_before m at) ≡ place_before places at
  ranked_before zero = refl
  ranked_before (suc n) = go (slice_get places n) refl
    where
      go : (o : Option ℕ) → slice_get places n ≡ o → option_map (λ (s : Spot). s.place) (spot_at m n) ≡ slice_get places n
      go None none = sym (ap (option_map (λ (s : Spot). s.place)) (ranked_none n none)) ∙ sym none
      go (Some p) some =
          let w = entry_at (get s p) refl (ranked_there n p some) in
          sym (ap (option_map (λ (s : Spot). s.place)) (ranked_spot n p w.0 some w.1)) ∙ sym some
        where
          entry_at : (o : Option (Entry T N)) → get s p ≡ o → IsSome o → (e : Entry T N) × (get s p ≡ Some e)
          entry_at None at none = absurd (cc)
          entry_at (Some e) at some = (e, at)

  -- what is told of a rank, by the spot of the rank before
  pub told_ranked : (at : ℕ) (before : Option Spot) (told : Option ℕ) → at ≤ len m → before ≡ spot_before m at
      → (at ≤ length places → option_map (λ (s : Spot). s.place) before ≡ place_before places at → told ≡ slice_get places at) → told ≡ slice_get places at
  told_ranked at before told within is ranked = ranked (subst (λ n. at ≤ n) ranked_length within) (ap (option_map (λ (s : Spot). s.place)) is ∙ ranked_before at)
