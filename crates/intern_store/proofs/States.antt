-- What a storage keeps true of its entries.
use Rattle.std.proofs.Common.{◌≡◌, ◌≢◌, ℕ, ◌+◌, ◌-◌, ◌<◌, ◌≤◌, Bool, true, false, cond, Option, Some, None, IsSome, nat_eq, refl, sym, ap, ◌∙◌, arith}
use Rattle.std.specs.Option.{option_map}
use Rattle.std.specs.Ordering.{nat_cmp}
use Rattle.std.specs.Cmp.{nat_cmp_total, IsEquivalence}
use Rattle.std.specs.FinMap as map
use Rattle.std.specs.FinMap.{FinMap, get-empty, same_map, nat_cmp-IsAntisymmetric}
use Rattle.std.proofs.lemmas.Bool.Decides.{nat_tests}
use Rattle.intern_store.specs.Kept.{Kept, is_at, raised, recount, recounted}
use Rattle.intern_store.specs.State.{State, Stocked, IsState, entry_at, count_at, is_last, freed, released, with_count, added, added_with, taken, counted_up, counted_down, birth_of, or_added, interned_counted, full}
use Rattle.intern_store.specs.declared.refusal.Refusal.TheVariants.{CountFull}
use Rattle.intern_store.proofs.Compared.{get-inserted, get-removed, get-retained, get-modified}

-- the state of what is seen as another
pub seen_state : {V H : Type 0} {s t : Stocked V H} → s ≡ t → s.state ≡ t.state
seen_state view = ap (λ s. s.state) view

-- what is kept, where there is something
some_kept : {A : Type 0} (o : Option A) → IsSome o → (x : A) × (o ≡ Some x)
some_kept (Some x) is = (x, refl)
some_kept None is = absurd (cc)

module _ {T : Type 0} (eq : T → T → Bool) where
  pub empty_state : (number top numbers : ℕ) (m : FinMap nat_cmp (Kept T)) → 0 < top → m ≡ map.empty → IsState eq (record { number = number; next = 0; top = top; numbers = numbers; map = m })
  empty_state number top numbers m room is =
      let none = λ (b : ℕ). ap (λ n. map.get n b) is ∙ get-empty nat_cmp b in
      record {
        below = λ b some. let no = none b in absurd (cc);
        within = omega arith;
        counts = λ b k had. let no = none b in absurd (cc);
        apart = λ b c k l had other e. let no = none b in absurd (cc);
        counted = room;
      }

  pub fresh_state : (laws : IsEquivalence eq) (s : State T) (v : T) (n : ℕ) (m : FinMap nat_cmp (Kept T)) → IsState eq s → s.next < s.numbers → n ≤ s.top → ((b : ℕ) → is_at eq v (map.get s.map b) ≡ false)
      → m ≡ map.insert s.map s.next (record { value = v; count = n }) → IsState eq (record { number = s.number; next = s.next + 1; top = s.top; numbers = s.numbers; map = m })
  fresh_state laws s v n m is room fits new added =
      record {
        below = λ b some. grind (arith, nat_tests, at_any b, is.below b);
        within = omega arith;
        counts = λ b k had. grind (arith, nat_tests, at_any b, is.counts b k);
        apart = λ b c k l had other e.
            grind (arith, nat_tests, at_any b, at_any c, is.apart b c k l, new b, new c, laws.symm v k.value);
        counted = is.counted;
      }
    where
      at_any : (q : ℕ) → map.get m q ≡ cond (nat_eq q s.next) (Some (record { value = v; count = n })) (map.get s.map q)
      at_any q = ap (λ n. map.get n q) added ∙ get-inserted s.map s.next (record { value = v; count = n }) q

  -- a part of the entries is left
  left_state : (s : State T) (m : FinMap nat_cmp (Kept T)) → IsState eq s → ((q : ℕ) (k : Kept T) → map.get m q ≡ Some k → map.get s.map q ≡ Some k) → IsState eq (record s { map = m })
  left_state s m is was = record {
    below = λ q some. is.below q (grind (arith, was q));
    within = is.within;
    counts = λ q k had. is.counts q k (was q k had);
    apart = λ q c k l had other e. is.apart q c k l (was q k had) (was c l other) e;
    counted = is.counted;
  }

  -- an entry that is left after a removal was there
  pub still : (m : FinMap nat_cmp (Kept T)) (b q : ℕ) (k : Kept T) → map.get (map.remove m b) q ≡ Some k → map.get m q ≡ Some k
  still m b q k had = grind (arith, get-removed m b q)

  pub taken_state : (s : State T) (b : ℕ) (m : FinMap nat_cmp (Kept T)) → IsState eq s → m ≡ map.remove s.map b → IsState eq (record s { map = m })
  taken_state s b m is removed = left_state s m is (λ q k had. grind (arith, still s.map b q k))

  pub kept_state : (s : State T) (marked : ℕ → Bool) (m : FinMap nat_cmp (Kept T)) → IsState eq s → m ≡ map.retain_keys s.map marked → IsState eq (record s { map = m })
  kept_state s marked m is kept = left_state s m is (λ q k had. grind (arith, get-retained s.map marked q))

  -- one entry has another count
  pub changed_state : (f : ℕ → ℕ) (s : State T) (b : ℕ) (m : FinMap nat_cmp (Kept T)) → IsState eq s → ((n : ℕ) → n ≤ s.top → f n ≤ s.top)
      → m ≡ recounted f s.map b (map.get s.map b) → IsState eq (record s { map = m })
  changed_state f s b m is fits changed = record {
    below = λ q some. is.below q (grind (arith, get-modified (recount f) s.map b q));
    within = is.within;
    counts = λ q l now. let w = was q l now in w.3;
    apart = λ q c l j now other e.
        let w = was q l now in
        let u = was c j other in
        is.apart q c w.0 u.0 w.1 u.1 (cc (w.2, u.2));
    counted = is.counted;
  }
    where
      was : (q : ℕ) (l : Kept T) → map.get m q ≡ Some l → (j : Kept T) × (map.get s.map q ≡ Some j) × (j.value ≡ l.value) × (l.count ≤ s.top)
      was q l now =
          let at = ap (λ x. map.get x q) changed ∙ get-modified (recount f) s.map b q in
          let j = some_kept (map.get s.map q) (grind (arith, at)) in
          (j.0, j.1, grind (arith, j.1, at), grind (arith, j.1, at, fits j.0.count, is.counts q j.0))

  -- a count is within the limit
  pub count_within : (s : State T) (b n : ℕ) → IsState eq s → option_map (λ k. k.count) (entry_at s b) ≡ Some n → n ≤ s.top
  count_within s b n is counts = grind (arith, is.counts b)

-- a count that is raised
pub raised_below : (top n : ℕ) → n < top → raised top n ≡ n + 1
raised_below top n below = grind (arith, nat_tests)

-- and one at the limit
pub raised_full : (top n : ℕ) → top ≤ n → raised top n ≡ n
raised_full top n full = grind (arith, nat_tests)

-- what is due at either
pub full_at : (n top : ℕ) → n ≡ top → full top n ≡ Some CountFull
full_at n top is = grind (arith, nat_tests)

pub not_full : (n top : ℕ) → n ≢ top → full top n ≡ None
not_full n top differs = grind (arith, nat_tests)

pub raised_within : (top n : ℕ) → n ≤ top → raised top n ≤ top
raised_within top n fits = grind (arith, nat_tests)

module _ {T : Type 0} where
  -- a count that is changed as another function changes it
  pub changed_count : (f g : ℕ → ℕ) (s : State T) (b : ℕ) (m : FinMap nat_cmp (Kept T)) → m ≡ recounted f s.map b (entry_at s b)
      → ((n : ℕ) → option_map (λ k. k.count) (entry_at s b) ≡ Some n → f n ≡ g n) → record s { map = m } ≡ with_count g s b (entry_at s b)
  changed_count f g s b m changed same = ap (λ m. record s { map = m }) changed ∙ go (entry_at s b) same
    where
      go : (o : Option (Kept T)) → ((n : ℕ) → option_map (λ k. k.count) o ≡ Some n → f n ≡ g n) → record s { map = recounted f s.map b o } ≡ with_count g s b o
      go None same = refl
      go (Some k) same = ap (λ n. record s { map = map.insert s.map b (record k { count = n }) }) (same k.count refl)

  -- or that stays as it is
  pub same_count : (f : ℕ → ℕ) (s : State T) (b : ℕ) (m : FinMap nat_cmp (Kept T)) → m ≡ recounted f s.map b (entry_at s b)
      → ((n : ℕ) → option_map (λ k. k.count) (entry_at s b) ≡ Some n → f n ≡ n) → record s { map = m } ≡ s
  same_count f s b m changed same =
      changed_count f (λ n. n) s b m changed same
      ∙ ap (λ m. record s { map = m }) (same_map nat_cmp_total nat_cmp-IsAntisymmetric _ _ (λ q.
      grind (arith, get-modified (recount (λ n. n)) s.map b q)))

  module _ (stays : Bool) (s : State T) (b : ℕ) (goes : stays ≡ false) (one : count_at s b ≡ Some 1) where
    is_the_last : is_last stays s b ≡ true
    is_the_last = grind (arith, nat_tests)

    -- an entry that is counted once less and taken out is taken out
    pub last_released : taken (counted_down s b) b ≡ released stays s b
    last_released = go (entry_at s b) ∙ ap (λ t. cond t (taken s b) (counted_down s b)) (sym is_the_last)
      where
        go : (o : Option (Kept T)) → taken (with_count (λ n. n - 1) s b o) b ≡ taken s b
        go None = refl
        go (Some k) = ap (λ m. record s { map = m }) (same_map nat_cmp_total nat_cmp-IsAntisymmetric _ _ (λ q.
            grind (arith, get-removed, get-inserted)))

    -- and its value is freed
    pub last_freed : option_map (λ k. k.value) (entry_at (counted_down s b) b) ≡ freed stays s b
    last_freed = grind (arith, get-modified (recount (λ n. n - 1)) s.map b b, is_the_last)

  -- a new entry that is counted once
  pub counted_up-added : (s : State T) (v : T) → counted_up (added s v) s.next ≡ added_with 1 s v
  counted_up-added s v = ap (with_count (λ n. n + 1) (added s v) s.next) entry ∙ ap (λ m. record s { next = s.next + 1; map = m }) twice
    where
      entry : entry_at (added s v) s.next ≡ Some (record { value = v; count = 0 })
      entry = grind (arith, nat_tests, get-inserted)

      one : Kept T
      one = record { value = v; count = 1 }

      twice : map.insert (map.insert s.map s.next (record { value = v; count = 0 })) s.next one ≡ map.insert s.map s.next one
      twice = same_map nat_cmp_total nat_cmp-IsAntisymmetric _ _ (λ q.
          grind (arith, get-inserted))

  -- interning a value that isn't stored, and counting it
  pub counted_up-interned : (eq : T → T → Bool) (s : State T) (v : T) → birth_of eq s v ≡ None → interned_counted eq s v ≡ added_with 1 s v
  counted_up-interned eq s v none = ap (λ o. counted_up (or_added o s v).state (or_added o s v).birth) none ∙ counted_up-added s v

  -- interning a value that is stored, and counting it
  module _ (eq : T → T → Bool) (s : State T) (v : T) (b : ℕ) (stored : birth_of eq s v ≡ Some b) where
    pub counted_up-stored : interned_counted eq s v ≡ counted_up s b
    counted_up-stored = ap (λ o. counted_up (or_added o s v).state (or_added o s v).birth) stored
