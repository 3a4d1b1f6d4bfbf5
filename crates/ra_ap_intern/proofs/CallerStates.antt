-- What a storage keeps true of its entries, after each change.
use Rattle.std.proofs.Common.{◌≡◌, ℕ, ◌+◌, ◌-◌, ◌<◌, Bool, Option, Some, None, refl, sym, ap, subst, ◌∙◌, arith}
use Rattle.std.specs.Prelude.{option_and_then}
use Rattle.std.specs.Cmp.{IsEquivalence}
use Rattle.std.specs.FinMap as map
use Rattle.std.proofs.lemmas.Bool.Decides.{nat_tests}
use Rattle.intern_store.proofs.Births.{not_stored}
use Rattle.intern_store.proofs.States.{empty_state, fresh_state, taken_state, kept_state, changed_state, counted_up-interned, counted_up-stored, changed_count, count_within, raised_below, raised_within}
use Rattle.ra_ap_intern.specs.Name.{Name}
use Rattle.ra_ap_intern.proofs.CallerReads.{released_either, is_there}
use Rattle.ra_ap_intern.specs.Kept.{raised, recounted}
use Rattle.ra_ap_intern.specs.State.{State, IsState, new_state, entry_at, count_at, counted_up, counted_down, taken, kept, released, due, full, due_adding, due_interning, interned_counted, due_found, any_count, or_added, interned, birth_of}

module _ {V : Type 0} (eq : V → V → Bool) where
  -- an empty storage
  pub state_new : (number top numbers : ℕ) → 0 < top → IsState eq (new_state number top numbers)
  state_new number top numbers room = empty_state eq number top numbers map.empty room refl

  room : (s : State V) → IsState eq s → due_adding s ≡ None → s.next < s.numbers
  room s ok free = grind (arith, nat_tests, ok.within)

  -- an interning that nothing refuses
  pub state_interned : IsEquivalence eq → (s : State V) (v : V) → IsState eq s
      → due_interning eq s v any_count ≡ None → IsState eq (interned eq s v).state
  state_interned laws s v ok due = go (birth_of eq s v) refl due
    where
      go : (o : Option ℕ) → birth_of eq s v ≡ o → due_found o s any_count ≡ None
          → IsState eq (or_added o s v).state
      go (Some b) is free = ok
      go None is free =
          fresh_state eq laws s v 0 _ ok (room s ok free) (omega arith) (not_stored eq s v is) refl

  -- a count below the limit that is raised
  raised_state : (s : State V) (b : ℕ) → IsState eq s
      → ((n : ℕ) → count_at s b ≡ Some n → full s.top n ≡ None) → IsState eq (counted_up s b)
  raised_state s b ok free =
      let m = recounted (raised s.top) s.map b (entry_at s b) in
      subst (IsState eq) (changed_count (raised s.top) (λ n. n + 1) s b m refl (λ n is.
      raised_below s.top n (below n is (free n is))))
      (changed_state eq (raised s.top) s b m ok (raised_within s.top) refl)
    where
      below : (n : ℕ) → count_at s b ≡ Some n → full s.top n ≡ None → n < s.top
      below n is none = grind (arith, nat_tests, count_within eq s b n ok is)

  pub state_counted_up : (s : State V) (name : Name) → IsState eq s
      → due s name (full s.top) ≡ None → IsState eq (counted_up s name.birth)
  state_counted_up s name ok free =
      let there = is_there s name (full s.top) free in
      raised_state s name.birth ok (λ n is.
      grind (arith, there.at, there.passes))

  -- an interning in counted mode that nothing refuses
  pub state_interned_counted : IsEquivalence eq → (s : State V) (v : V) → IsState eq s
      → due_interning eq s v (full s.top) ≡ None → IsState eq (interned_counted eq s v)
  state_interned_counted laws s v ok due = go (birth_of eq s v) refl due
    where
      go : (o : Option ℕ) → birth_of eq s v ≡ o → due_found o s (full s.top) ≡ None
          → IsState eq (interned_counted eq s v)
      go (Some b) is free =
          subst (IsState eq) (sym (counted_up-stored eq s v b is))
          (raised_state s b ok (λ n at. sym (ap (option_and_then (full s.top)) at) ∙ free))
      go None is free =
          subst (IsState eq) (sym (counted_up-interned eq s v is))
          (let some = ok.counted in
          fresh_state eq laws s v 1 _ ok (room s ok free) (omega arith) (not_stored eq s v is) refl)

  -- a lowered count
  pub state_counted_down : (s : State V) (b : ℕ) → IsState eq s → IsState eq (counted_down s b)
  state_counted_down s b ok =
      changed_state eq (λ n. n - 1) s b _ ok (λ n fits. omega arith) refl

  -- an entry that is taken out
  pub state_taken : (s : State V) (b : ℕ) → IsState eq s → IsState eq (taken s b)
  state_taken s b ok = taken_state eq s b _ ok refl

  -- a release
  pub state_released : (stays : Bool) (s : State V) (b : ℕ) → IsState eq s
      → IsState eq (released stays s b)
  state_released stays s b ok =
      released_either (IsState eq) stays s b (state_taken s b ok) (state_counted_down s b ok)

  -- a sweep
  pub state_kept : (s : State V) (marked : ℕ → Bool) → IsState eq s → IsState eq (kept s marked)
  state_kept s marked ok = kept_state eq s marked _ ok refl
