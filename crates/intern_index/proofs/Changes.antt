-- What a change of the slab does to the map of its births, and to what ties it to its tables.
use Rattle.std.proofs.Common.{◌≡◌, ◌≢◌, ◌⊎◌, inl, inr, ℕ, ◌+◌, ◌-◌, min, ◌<◌, ◌^◌, Bool, true, false, cond, Option, Some, None, is_some, nat_eq, refl, sym, ap, subst, ◌∙◌, arith}
use Rattle.std.specs.Option.{option_map}
use Rattle.std.specs.Ordering.{nat_cmp}
use Rattle.std.specs.Cmp.{nat_cmp_total}
use Rattle.std.specs.FinMap.{FinMap, insert, remove, get as map_get, same_map, nat_cmp-IsAntisymmetric}
use Rattle.std.proofs.lemmas.Bool.{cases_eq, eqb-true}
use Rattle.std.proofs.lemmas.Option.{same_Some}
use Rattle.std.proofs.lemmas.List.Sums.{sum_by-set}
use Rattle.slab.specs.Slab.{Slab, get, slab_len, with_value, Updates}
use Rattle.slab.proofs.SlabLemmas.{ContainsKey-within}
use Rattle.intern_store.proofs.Compared.{get-inserted, get-removed}
use Rattle.intern_index.specs.Room.{placed, room_of}
use Rattle.intern_index.specs.IndexEntry.{IndexEntry, with_payload}
use Rattle.intern_index.specs.Entries.{seen, held, birth_at, IsTied}
use Rattle.intern_index.specs.declared.entry.Entry.{Entry}
use Rattle.intern_index.proofs.Held.{entry_there, birth_there, updated, seen_at}

module _ {T N : Type 0} (s new : Slab (Entry T N)) (IsFor : (ℕ → Option ℕ) → Type 0) (tied : IsTied s IsFor) where
  -- fewer entries are tied, where each was there
  pub less_tied : (IsNewFor : (ℕ → Option ℕ) → Type 0) → ((p : ℕ) (e : Entry T N) → get new p ≡ Some e → get s p ≡ Some e) → IsNewFor (birth_at new) → IsTied new IsNewFor
  less_tied IsNewFor was found = record {
    apart = λ p q b one two. tied.apart p q b (still p b one) (still q b two);
    found = found;
    told = λ p b is. tied.told p b (still p b is);
  }
    where
      still : (p b : ℕ) → birth_at new p ≡ Some b → birth_at s p ≡ Some b
      still p b is = let w = entry_there new p b is in birth_there s p b w.0 (was p w.0 w.1) w.2

  -- an entry that is left after a removal was there
  pub left_there : (key : ℕ) → Updates s new key None → (p : ℕ) (e : Entry T N) → get new p ≡ Some e → get s p ≡ Some e
  left_there key updates p e there =
      elim (cases_eq p key) [
        | inl is ↦ let none = ap (get new) is ∙ updates.changed in absurd (cc)
        | inr differs ↦ sym (updates.others p differs) ∙ there
      ]

  -- an entry that gets another payload is as tied as before
  pub repaid_tied : (key : ℕ) (d e : Entry T N) → get s key ≡ Some d → d.birth ≡ e.birth → Updates s new key (Some e) → IsTied new IsFor
  repaid_tied key d e there birth updates = record {
    apart = λ p q b one two. tied.apart p q b (sym (same p) ∙ one) (sym (same q) ∙ two);
    found = subst IsFor (λ i p. sym (same p) i) tied.found;
    told = λ p b is. tied.told p b (sym (same p) ∙ is);
  }
    where
      birth_of : Option (Entry T N) → Option ℕ
      birth_of = option_map (λ e. e.birth)

      same : (p : ℕ) → birth_at new p ≡ birth_at s p
      same p =
          elim (cases_eq p key) [
            | inl is ↦ ap birth_of (ap (get new) is ∙ updates.changed) ∙ ap Some (sym birth) ∙ ap birth_of (sym there ∙ ap (get s) (sym is))
            | inr differs ↦ ap birth_of (updates.others p differs)
          ]

  -- one more entry is tied, of a birth above all others, once it is entered
  pub inserted_tied : (IsNewFor : (ℕ → Option ℕ) → Type 0) (key : ℕ) (e : Entry T N) → get s key ≡ None → ((p b : ℕ) → birth_at s p ≡ Some b → b < e.birth) → Updates s new key (Some e) → key + 1 < 2 ^ 48
      → ((old now : ℕ → Option ℕ) → IsFor old → old key ≡ None → ((p b : ℕ) → old p ≡ Some b → b < e.birth) → now key ≡ Some e.birth → ((p : ℕ) → p ≢ key → now p ≡ old p) → IsNewFor now) → IsTied new IsNewFor
  inserted_tied IsNewFor key e vacant below updates small found = record {
    apart = λ p q b one two. apart p q b one two (cases_eq p key) (cases_eq q key);
    found = found (birth_at s) (birth_at new) tied.found (ap birth_of vacant) below (ap birth_of updates.changed) (λ p differs. ap birth_of (updates.others p differs));
    told = λ p b is.
        elim (cases_eq p key) [
          | inl here ↦ omega arith
          | inr differs ↦ tied.told p b (old p b differs is)
        ];
  }
    where
      birth_of : Option (Entry T N) → Option ℕ
      birth_of = option_map (λ e. e.birth)

      old : (p b : ℕ) → p ≢ key → birth_at new p ≡ Some b → birth_at s p ≡ Some b
      old p b differs is = sym (ap birth_of (updates.others p differs)) ∙ is

      fresh : (p b : ℕ) → p ≡ key → birth_at new p ≡ Some b → b ≡ e.birth
      fresh p b here is = same_Some _ _ (sym is ∙ ap birth_of (ap (get new) here ∙ updates.changed))

      apart : (p q b : ℕ) → birth_at new p ≡ Some b → birth_at new q ≡ Some b → (p ≡ key) ⊎ (p ≢ key) → (q ≡ key) ⊎ (q ≢ key) → p ≡ q
      apart p q b one two (inl first) (inl second) = first ∙ sym second
      apart p q b one two (inl first) (inr second) = let is = fresh p b first one in let lower = below q b (old q b second two) in absurd (omega arith)
      apart p q b one two (inr first) (inl second) = let is = fresh q b second two in let lower = below p b (old p b first one) in absurd (omega arith)
      apart p q b one two (inr first) (inr second) = tied.apart p q b (old p b first one) (old q b second two)

  module _ (m : FinMap nat_cmp (IndexEntry T N)) (view : held s.slots ≡ m) (key b : ℕ) where
    -- what is at a place is seen
    pub seen_some : birth_at s key ≡ Some b → is_some (map_get m b) ≡ true
    seen_some at =
        let w = entry_there s key b at in
        ap is_some (sym (seen_at s m view tied.apart key b at)) ∙ ap (λ o. is_some (option_map (seen key) o)) w.1

    -- the map without the birth of an entry that is taken out
    pub removed_seen : birth_at s key ≡ Some b → Updates s new key None → held new.slots ≡ remove m b
    removed_seen at updates =
        updated s new key b None (remove (held s.slots) b) tied.apart updates (λ p is. tied.apart p key b is at)
        (λ e there. same_Some _ _ (sym (ap (option_map (λ (e : Entry T N). e.birth)) there) ∙ at)) (λ e none. absurd (cc)) (get-removed (held s.slots) b)
        ∙ ap (λ n. remove n b) view

    -- the map with an entry of a birth in place of the one that was there, or where none was
    pub written_seen : (e : Entry T N) → e.birth ≡ b → ((p : ℕ) → birth_at s p ≡ Some b → p ≡ key) → ((d : Entry T N) → get s key ≡ Some d → d.birth ≡ b) → Updates s new key (Some e) → held new.slots ≡ insert m b (seen key e)
    written_seen e birth alone was updates =
        updated s new key b (Some e) (insert (held s.slots) b (seen key e)) tied.apart updates alone was
        (λ d is. ap (λ (e : Entry T N). e.birth) (sym (same_Some _ _ is)) ∙ birth) (get-inserted (held s.slots) b (seen key e))
        ∙ ap (λ n. insert n b (seen key e)) view

    -- the map with another payload of the entry at a place
    pub repaid_seen : (f : N → N) (d e : Entry T N) → get s key ≡ Some d → d.birth ≡ b → e ≡ record d { payload = f d.payload } → Updates s new key (Some e) → held new.slots ≡ with_payload f m b (map_get m b)
    repaid_seen f d e there birth is updates =
        let at = birth_there s key b d there birth in
        let entry = ap (option_map (seen key)) (sym there) ∙ seen_at s m view tied.apart key b at in
        written_seen e (ap (λ (e : Entry T N). e.birth) is ∙ birth) (λ p had. tied.apart p key b had at)
        (λ x had. ap (λ (e : Entry T N). e.birth) (same_Some _ _ (sym had ∙ there)) ∙ birth) updates
        ∙ ap (λ x. insert m b (seen key x)) is
        ∙ ap (with_payload f m b) entry

-- a birth that isn't there is not missed
pub unremoved : {X : Type 0} (m : FinMap nat_cmp X) (b : ℕ) → map_get m b ≡ None → m ≡ remove m b
unremoved {X} m b none = same_map nat_cmp_total nat_cmp-IsAntisymmetric m (remove m b) (λ q. sym (get-removed m b q ∙ go q (nat_eq q b) refl))
  where
    go : (q : ℕ) (t : Bool) → nat_eq q b ≡ t → cond t None (map_get m q) ≡ map_get m q
    go q true t = sym (ap (map_get m) (eqb-true q b t) ∙ none)
    go q false t = refl

-- a write at a place that has an entry leaves as many
pub len-written : {X : Type 0} (s : Slab X) (key : ℕ) (x : X) → is_some (get s key) ≡ true → slab_len (with_value s key x) ≡ slab_len s
len-written {X} s key x there =
    let same = sum_by-set (λ (o : Option X). cond (is_some o) 1 0) s.slots key (Some x) None (ContainsKey-within s key there) in
    go (is_some (get s key)) there same
  where
    go : (t : Bool) → t ≡ true → slab_len (with_value s key x) + cond t 1 0 ≡ slab_len s + 1 → slab_len (with_value s key x) ≡ slab_len s
    go true is same = omega arith
    go false is same = absurd (cc)

-- so there is as much room
pub room_written : {X : Type 0} (s : Slab X) (key : ℕ) (x : X) (hashes : ℕ) (births : ℕ → ℕ) → is_some (get s key) ≡ true → room_of (with_value s key x) hashes (births (slab_len (with_value s key x))) ≡ room_of s hashes (births (slab_len s))
room_written s key x hashes births there = ap (λ n. min (placed s.capacity - n) (min hashes (births n))) (len-written s key x there)

-- room for more changes no place: an entry that is put where there is room
pub put_roomy : {X : Type 0} (s roomy new : Slab X) (key place : ℕ) (o : Option X) → roomy ≡ record s { capacity = roomy.capacity } → key ≡ roomy.vacant_key → place ≡ s.vacant_key → Updates roomy new key o → Updates s new place o
put_roomy {X} s roomy new key place o kept key_is place_is updates = record {
  changed = ap (get new) (sym here) ∙ updates.changed;
  others = λ p differs. updates.others p (λ is. differs (is ∙ here)) ∙ ap (λ (r : Slab X). get r p) kept;
}
  where
    here : key ≡ place
    here = key_is ∙ ap (λ (r : Slab X). r.vacant_key) kept ∙ sym place_is
