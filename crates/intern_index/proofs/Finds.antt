-- What the table of buckets leads to, on the slots and under the births of the entries, and what a
-- search finds.
use Rattle.std.proofs.Common.{◌≡◌, ◌⊎◌, inl, inr, ℕ, ◌+◌, ◌<◌, ◌^◌, Bool, true, false, Option, Some, sym, ap, subst, ◌∙◌, zero-add}
use Rattle.std.specs.Option.{option_map, option_map_or}
use Rattle.std.specs.Ordering.{nat_cmp}
use Rattle.std.specs.FinMap.{FinMap, get as map_get}
use Rattle.std.proofs.lemmas.Bool.{eqb-true, cases_eq}
use Rattle.std.proofs.lemmas.Option.{same_Some}
use Rattle.slab.specs.Slab.{Slab, get, Updates}
use Rattle.intern_buckets.specs.Leading.{leads}
use Rattle.intern_buckets.specs.declared.buckets.Buckets.{Buckets}
use Rattle.intern_index.specs.IndexEntry.{IndexEntry, Indexed, IsLed, has_hash, is_sought}
use Rattle.intern_index.specs.Entries.{seen, held, passes_at, IsTied}
use Rattle.intern_index.specs.Keyed.{IsKeyed}
use Rattle.intern_index.specs.declared.entry.Entry.{Entry}
use Rattle.intern_index.proofs.Held.{IsIn, IsOut, in_or_out, told_there, read_there}

module _ {T N : Type 0} (key : T → N → ℕ) where
  -- the hash under which an entry is entered
  abbrev pub entered : ℕ → Entry T N → Option ℕ
  entered p e = Some (key e.value e.payload)

  module _ (s : Slab (Entry T N)) (t : Buckets) (IsFor : (ℕ → Option ℕ) → Type 0) (tied : IsTied s IsFor) where
    -- what leads to each entry under its birth leads to it at its place
    pub keyed_slots : (n : ℕ) → IsLed key (record { entries = held s.slots; buckets = t; room = n }) → IsKeyed t entered s
    keyed_slots n is p e there = is.led e.birth (seen p e) (read_there s tied.apart p e there)

  -- and the other way round
  pub led_slots : (s : Slab (Entry T N)) (t : Buckets) (n : ℕ) → IsKeyed t entered s → IsLed key (record { entries = held s.slots; buckets = t; room = n })
  led_slots s t n keyed = record { led = λ b r at. go b r at (in_or_out s.slots b) }
    where
      go : (b : ℕ) (r : IndexEntry T N) → map_get (held s.slots) b ≡ Some r → IsIn 0 s.slots b ⊎ IsOut 0 s.slots b → leads t (key r.value r.payload) r.place ≡ true
      go b r at (inl is) =
          let same = same_Some _ _ (sym (is.read ∙ ap (λ n. Some (seen n is.entry)) (zero-add is.place)) ∙ at) in
          subst (λ (r : IndexEntry T N). leads t (key r.value r.payload) r.place ≡ true) same (keyed is.place is.entry is.there)
      go b r at (inr out) = let none = sym out.read ∙ at in absurd (cc)

  -- it leads to one more, once that is entered
  pub keyed_one_more : (s new : Slab (Entry T N)) (t u : Buckets) (place : ℕ) (e : Entry T N) → Updates s new place (Some e) → IsKeyed t entered s → leads u (key e.value e.payload) place ≡ true → ((h p : ℕ) → leads t h p ≡ true → leads u h p ≡ true) → IsKeyed u entered new
  keyed_one_more s new t u place e updates keyed here still p x at =
      elim (cases_eq p place) [
        | inl is ↦
            let entry = same_Some _ _ (sym updates.changed ∙ ap (get new) (sym is) ∙ at) in
            ap (leads u (key x.value x.payload)) is ∙ ap (λ (x : Entry T N). leads u (key x.value x.payload) place) (sym entry) ∙ here
        | inr differs ↦ still (key x.value x.payload) p (keyed p x (sym (updates.others p differs) ∙ at))
      ]

module _ {T N : Type 0} (fits : T → N → Bool) (s : Slab (Entry T N)) (IsFor : (ℕ → Option ℕ) → Type 0) (tied : IsTied s IsFor) where
  abbrev pub passes : Entry T N → Bool
  passes e = fits e.value e.payload

  fits_nowhere : (t : Buckets) (h : ℕ) → ((p : ℕ) → p + 1 < 2 ^ 48 → leads t h p ≡ true → passes_at passes s p ≡ false) → (key : T → N → ℕ) → IsKeyed t (entered key) s → (b : ℕ) → has_hash key h (map_get (held s.slots) b) ≡ true
      → is_sought fits (map_get (held s.slots) b) ≡ false
  fits_nowhere t h none key keyed b hashed = go (in_or_out s.slots b)
    where
      go : IsIn 0 s.slots b ⊎ IsOut 0 s.slots b → is_sought fits (map_get (held s.slots) b) ≡ false
      go (inr out) = ap (is_sought fits) out.read
      go (inl is) =
          let hash = eqb-true h (key is.entry.value is.entry.payload) (sym (ap (has_hash key h) is.read) ∙ hashed) in
          let led = ap (λ k. leads t k is.place) hash ∙ keyed is.place is.entry is.there in
          ap (is_sought fits) is.read ∙ sym (ap (λ o. option_map_or passes o false) is.there) ∙ none is.place (told_there s tied.told is.place is.entry is.there) led

  -- where no place that a hash leads to passes, none of that hash fits
  pub none_fits : (t : Buckets) (h : ℕ) → ((p : ℕ) → p + 1 < 2 ^ 48 → leads t h p ≡ true → passes_at passes s p ≡ false) → (n : ℕ) (i : Indexed T N) → record { entries = held s.slots; buckets = t; room = n } ≡ i → (key : T → N → ℕ) → IsLed key i → (b : ℕ)
      → has_hash key h (map_get i.entries b) ≡ true → is_sought fits (map_get i.entries b) ≡ false
  none_fits t h none n i view key led b =
      subst (λ (i : Indexed T N). has_hash key h (map_get i.entries b) ≡ true → is_sought fits (map_get i.entries b) ≡ false) view
      (fits_nowhere t h none key (keyed_slots key s t IsFor tied n (subst (IsLed key) (sym view) led)) b)

  module _ (m : FinMap nat_cmp (IndexEntry T N)) (view : held s.slots ≡ m) (p : ℕ) (e : Entry T N) (there : get s p ≡ Some e) where
    there_seen : map_get m e.birth ≡ Some (seen p e)
    there_seen = ap (λ n. map_get n e.birth) (sym view) ∙ read_there s tied.apart p e there

    -- an entry that passes fits under its birth
    pub one_fits : passes_at passes s p ≡ true → is_sought fits (map_get m e.birth) ≡ true
    one_fits found = ap (is_sought fits) there_seen ∙ sym (ap (λ o. option_map_or passes o false) there) ∙ found

    -- and its place is told
    pub one_placed : option_map (λ (e : IndexEntry T N). e.place) (map_get m e.birth) ≡ Some p
    one_placed = ap (option_map (λ (e : IndexEntry T N). e.place)) there_seen
