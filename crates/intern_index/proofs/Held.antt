-- What the map of a slab's entries has under each birth, and what a change of one place does to it.
use Rattle.std.proofs.Common.{◌≡◌, ◌≢◌, ◌⊎◌, inl, inr, ℕ, zero, suc, ◌+◌, ◌<◌, ◌^◌, Bool, true, false, cond, List, [], ◌∷◌, get_or, Option, Some, None, is_some, IfSome, IfNone, count_by, nat_eq, refl, sym, ap, ◌∙◌, add-zero, zero-add, arith}
use Rattle.std.specs.Option.{option_map}
use Rattle.std.specs.Ordering.{nat_cmp}
use Rattle.std.specs.Cmp.{nat_cmp_total}
use Rattle.std.specs.FinMap.{FinMap, empty, insert, get as map_get, len, get-empty, len-empty, len-insert, same_map, nat_cmp-IsAntisymmetric}
use Rattle.std.proofs.lemmas.Bool.{cases_eq, eq-eqb, eqb-true, ne_eqb}
use Rattle.std.proofs.lemmas.Option.{same_Some}
use Rattle.std.proofs.lemmas.List.Sums.{sum_by-cons}
use Rattle.slab.specs.Slab.{Slab, get, slab_len, Updates}
use Rattle.intern_store.proofs.Compared.{get-inserted}
use Rattle.intern_buckets.specs.declared.buckets.Buckets.{Buckets}
use Rattle.intern_index.specs.IndexEntry.{IndexEntry, Indexed}
use Rattle.intern_index.specs.Entries.{seen, held_from, held, birth_at, AreTold, IsTied}
use Rattle.intern_index.specs.declared.entry.Entry.{Entry}

module _ {T N : Type 0} where
  -- a birth is found at a place, and the map has what is seen there
  pub record IsIn (first : ℕ) (slots : List (Option (Entry T N))) (b : ℕ) : Type 0 where
    pub place : ℕ
    pub entry : Entry T N
    pub there : get_or slots place None ≡ Some entry
    pub birth : entry.birth ≡ b
    pub read : map_get (held_from first slots) b ≡ Some (seen (first + place) entry)

  -- a birth is at no place, and the map has nothing under it
  pub record IsOut (first : ℕ) (slots : List (Option (Entry T N))) (b : ℕ) : Type 0 where
    pub none : (p : ℕ) (e : Entry T N) → get_or slots p None ≡ Some e → e.birth ≢ b
    pub read : map_get (held_from first slots) b ≡ None

  shifted : (first p : ℕ) (e : Entry T N) → Some (seen (first + 1 + p) e) ≡ Some (seen (first + suc p) e)
  shifted first p e = let is : first + 1 + p ≡ first + suc p = omega arith in ap (λ n. Some (seen n e)) is

  in_or_out_from : (first : ℕ) (slots : List (Option (Entry T N))) (b : ℕ) → IsIn first slots b ⊎ IsOut first slots b
  unfolding held_from
  in_or_out_from first [] b = inr (record { none = λ p e there. absurd (cc); read = get-empty nat_cmp b })
  in_or_out_from first (None ∷ slots) b =
      elim (in_or_out_from (first + 1) slots b) [
        | inl is ↦ inl (record { place = suc is.place; entry = is.entry; there = is.there; birth = is.birth; read = is.read ∙ shifted first is.place is.entry })
        | inr out ↦ inr (record { none = λ p. behind p out.none; read = out.read })
      ]
    where
      behind : (p : ℕ) → ((q : ℕ) (e : Entry T N) → get_or slots q None ≡ Some e → e.birth ≢ b) → (e : Entry T N) → get_or (None ∷ slots) p None ≡ Some e → e.birth ≢ b
      behind zero none e there = absurd (cc)
      behind (suc p) none e there = none p e there
  in_or_out_from first (Some d ∷ slots) b = go (nat_eq b d.birth) refl (in_or_out_from (first + 1) slots b)
    where
      read : (t : Bool) → nat_eq b d.birth ≡ t → map_get (insert (held_from (first + 1) slots) d.birth (seen first d)) b ≡ cond t (Some (seen first d)) (map_get (held_from (first + 1) slots) b)
      read t is = get-inserted (held_from (first + 1) slots) d.birth (seen first d) b ∙ ap (λ t. cond t (Some (seen first d)) (map_get (held_from (first + 1) slots) b)) is

      here_or_behind : (p : ℕ) → nat_eq b d.birth ≡ false → ((q : ℕ) (e : Entry T N) → get_or slots q None ≡ Some e → e.birth ≢ b) → (e : Entry T N) → get_or (Some d ∷ slots) p None ≡ Some e → e.birth ≢ b
      here_or_behind zero other none e there same =
          let yes = eq-eqb b d.birth (sym same ∙ ap (λ (e : Entry T N). e.birth) (sym (same_Some _ _ there))) in
          absurd (cc)
      here_or_behind (suc p) other none e there same = none p e there same

      go : (t : Bool) → nat_eq b d.birth ≡ t → IsIn (first + 1) slots b ⊎ IsOut (first + 1) slots b → IsIn first (Some d ∷ slots) b ⊎ IsOut first (Some d ∷ slots) b
      go true t behind = inl (record { place = 0; entry = d; there = refl; birth = sym (eqb-true b d.birth t); read = read true t ∙ ap (λ n. Some (seen n d)) (sym (add-zero first)) })
      go false t (inl is) = inl (record { place = suc is.place; entry = is.entry; there = is.there; birth = is.birth; read = read false t ∙ is.read ∙ shifted first is.place is.entry })
      go false t (inr out) = inr (record { none = λ p. here_or_behind p t out.none; read = read false t ∙ out.read })

  pub in_or_out : (slots : List (Option (Entry T N))) (b : ℕ) → IsIn 0 slots b ⊎ IsOut 0 slots b
  in_or_out slots b = in_or_out_from 0 slots b

  -- no two places have one birth
  abbrev pub IsApart : Slab (Entry T N) → Type 0
  IsApart s = (p q b : ℕ) → birth_at s p ≡ Some b → birth_at s q ≡ Some b → p ≡ q

  -- the entry of a birth that is at a place
  pub entry_there : (s : Slab (Entry T N)) (p b : ℕ) → birth_at s p ≡ Some b → (e : Entry T N) × (get s p ≡ Some e) × (e.birth ≡ b)
  entry_there s p b is = go (get s p) refl is
    where
      go : (o : Option (Entry T N)) → get s p ≡ o → option_map (λ (e : Entry T N). e.birth) o ≡ Some b → (e : Entry T N) × (get s p ≡ Some e) × (e.birth ≡ b)
      go None there is = absurd (cc)
      go (Some e) there is = (e, there, same_Some _ _ is)

  pub birth_there : (s : Slab (Entry T N)) (p b : ℕ) (e : Entry T N) → get s p ≡ Some e → e.birth ≡ b → birth_at s p ≡ Some b
  birth_there s p b e there is = ap (option_map (λ (e : Entry T N). e.birth)) there ∙ ap Some is

  -- buckets tell the place of an entry that is there
  pub told_there : (s : Slab (Entry T N)) → AreTold s → (p : ℕ) (e : Entry T N) → get s p ≡ Some e → p + 1 < 2 ^ 48
  told_there s told p e there = told p e.birth (birth_there s p e.birth e there refl)

  -- the map has what is seen at a place
  pub read_there : (s : Slab (Entry T N)) → IsApart s → (p : ℕ) (e : Entry T N) → get s p ≡ Some e → map_get (held s.slots) e.birth ≡ Some (seen p e)
  read_there s apart p e there =
      elim (in_or_out s.slots e.birth) [
        | inl is ↦
            let one = apart is.place p e.birth (birth_there s is.place e.birth is.entry is.there is.birth) (birth_there s p e.birth e there refl) in
            is.read ∙ ap (λ n. Some (seen n is.entry)) (zero-add is.place ∙ one) ∙ ap (λ x. Some (seen p x)) (same_Some _ _ (sym is.there ∙ ap (get s) one ∙ there))
        | inr out ↦ absurd (out.none p e there refl)
      ]

  -- the map has nothing under a birth that is at no place
  pub read_nowhere : (s : Slab (Entry T N)) (b : ℕ) → ((p : ℕ) → birth_at s p ≢ Some b) → map_get (held s.slots) b ≡ None
  read_nowhere s b none =
      elim (in_or_out s.slots b) [
        | inl is ↦ absurd (none is.place (birth_there s is.place b is.entry is.there is.birth))
        | inr out ↦ out.read
      ]

  -- an option that agrees with each entry of a birth is what the map has under it
  pub read_as : (s : Slab (Entry T N)) → (b : ℕ) (o : Option (IndexEntry T N)) → ((p : ℕ) (e : Entry T N) → get s p ≡ Some e → e.birth ≡ b → Some (seen p e) ≡ o)
      → (((p : ℕ) (e : Entry T N) → get s p ≡ Some e → e.birth ≢ b) → None ≡ o) → map_get (held s.slots) b ≡ o
  read_as s b o some none =
      elim (in_or_out s.slots b) [
        | inl is ↦ is.read ∙ ap (λ n. Some (seen n is.entry)) (zero-add is.place) ∙ some is.place is.entry is.there is.birth
        | inr out ↦ out.read ∙ none out.none
      ]

  -- one place changes, which alone has or gets a birth, and so does the map under that birth
  pub updated : (old new : Slab (Entry T N)) (key b : ℕ) (o : Option (Entry T N)) (m : FinMap nat_cmp (IndexEntry T N)) → IsApart old → Updates old new key o
      → ((p : ℕ) → birth_at old p ≡ Some b → p ≡ key) → ((e : Entry T N) → get old key ≡ Some e → e.birth ≡ b) → ((e : Entry T N) → o ≡ Some e → e.birth ≡ b)
      → ((q : ℕ) → map_get m q ≡ cond (nat_eq q b) (option_map (seen key) o) (map_get (held old.slots) q)) → held new.slots ≡ m
  updated old new key b o m apart updates alone was gets reads = same_map nat_cmp_total nat_cmp-IsAntisymmetric _ _ (λ q. go q (cases_eq q b) ∙ sym (reads q))
    where
      other : (p : ℕ) (e : Entry T N) → p ≢ key → get new p ≡ Some e → get old p ≡ Some e
      other p e differs there = sym (updates.others p differs) ∙ there

      at_key : (q : ℕ) → q ≡ b → (p : ℕ) (e : Entry T N) → get new p ≡ Some e → e.birth ≡ q → (p ≡ key) ⊎ (p ≢ key) → Some (seen p e) ≡ option_map (seen key) o
      at_key q is p e there birth (inl here) = ap (λ n. Some (seen n e)) here ∙ ap (option_map (seen key)) (sym there ∙ ap (get new) here ∙ updates.changed)
      at_key q is p e there birth (inr differs) = absurd (differs (alone p (birth_there old p b e (other p e differs there) (birth ∙ is))))

      none_at_key : (q : ℕ) → q ≡ b → ((p : ℕ) (e : Entry T N) → get new p ≡ Some e → e.birth ≢ q) → (x : Option (Entry T N)) → o ≡ x → None ≡ option_map (seen key) o
      none_at_key q is none None at = ap (option_map (seen key)) (sym at)
      none_at_key q is none (Some e) at = absurd (none key e (updates.changed ∙ at) (gets e at ∙ sym is))

      elsewhere : (q : ℕ) → q ≢ b → (p : ℕ) (e : Entry T N) → get new p ≡ Some e → e.birth ≡ q → (p ≡ key) ⊎ (p ≢ key) → Some (seen p e) ≡ map_get (held old.slots) q
      elsewhere q differs p e there birth (inl here) = absurd (differs (sym birth ∙ gets e (sym updates.changed ∙ ap (get new) (sym here) ∙ there)))
      elsewhere q differs p e there birth (inr away) = sym (read_there old apart p e (other p e away there)) ∙ ap (map_get (held old.slots)) birth

      nowhere : (q : ℕ) → q ≢ b → ((p : ℕ) (e : Entry T N) → get new p ≡ Some e → e.birth ≢ q) → None ≡ map_get (held old.slots) q
      nowhere q differs none =
          elim (in_or_out old.slots q) [
            | inl is ↦
                elim (cases_eq is.place key) [
                  | inl here ↦ absurd (differs (sym is.birth ∙ was is.entry (ap (get old) (sym here) ∙ is.there)))
                  | inr away ↦ absurd (none is.place is.entry (updates.others is.place away ∙ is.there) is.birth)
                ]
            | inr out ↦ sym out.read
          ]

      go : (q : ℕ) → (q ≡ b) ⊎ (q ≢ b) → map_get (held new.slots) q ≡ cond (nat_eq q b) (option_map (seen key) o) (map_get (held old.slots) q)
      go q (inl is) =
          read_as new q (option_map (seen key) o) (λ p e there birth. at_key q is p e there birth (cases_eq p key)) (λ none. none_at_key q is none o refl)
          ∙ ap (λ t. cond t (option_map (seen key) o) (map_get (held old.slots) q)) (sym (eq-eqb q b is))
      go q (inr differs) =
          read_as new q (map_get (held old.slots) q) (λ p e there birth. elsewhere q differs p e there birth (cases_eq p key)) (nowhere q differs)
          ∙ ap (λ t. cond t (option_map (seen key) o) (map_get (held old.slots) q)) (sym (ne_eqb q b differs))

  -- no two of these slots have one birth
  abbrev pub IsApartFrom : List (Option (Entry T N)) → Type 0
  IsApartFrom slots = (p q : ℕ) (d e : Entry T N) → get_or slots p None ≡ Some d → get_or slots q None ≡ Some e → d.birth ≡ e.birth → p ≡ q

  pub apart_from : (s : Slab (Entry T N)) → IsApart s → IsApartFrom s.slots
  apart_from s apart p q d e one two same = apart p q e.birth (birth_there s p e.birth d one same) (birth_there s q e.birth e two refl)

  -- the birth of the first slot is at none behind it
  pub absent_behind : (first : ℕ) (d : Entry T N) (slots : List (Option (Entry T N))) → IsApartFrom (Some d ∷ slots) → map_get (held_from (first + 1) slots) d.birth ≡ None
  absent_behind first d slots apart = absent (in_or_out_from (first + 1) slots d.birth)
    where
      absent : IsIn (first + 1) slots d.birth ⊎ IsOut (first + 1) slots d.birth → map_get (held_from (first + 1) slots) d.birth ≡ None
      absent (inl is) = let no = apart 0 (suc is.place) d is.entry refl is.there (sym is.birth) in absurd (omega arith)
      absent (inr out) = out.read

  -- the map has as many births as the slab has entries
  len-held_from : (first : ℕ) (slots : List (Option (Entry T N))) → IsApartFrom slots → len (held_from first slots) ≡ count_by is_some slots
  unfolding held_from
  len-held_from first [] apart = len-empty nat_cmp (IndexEntry T N)
  len-held_from first (None ∷ slots) apart =
      omega (arith, len-held_from (first + 1) slots (λ p q d e one two same. let is = apart (suc p) (suc q) d e one two same in omega arith), sum_by-cons (λ (o : Option (Entry T N)). cond (is_some o) 1 0) None slots)
  len-held_from first (Some d ∷ slots) apart =
      let rest = len-held_from (first + 1) slots (λ p q d e one two same. let is = apart (suc p) (suc q) d e one two same in omega arith) in
      let more : len (held_from (first + 1) slots) + 1 ≡ count_by is_some (Some d ∷ slots) = omega (arith, rest, sum_by-cons (λ (o : Option (Entry T N)). cond (is_some o) 1 0) (Some d) slots) in
      len-insert nat_cmp_total (held_from (first + 1) slots) d.birth (seen first d)
      ∙ ap (λ o. cond (is_some o) (len (held_from (first + 1) slots)) (len (held_from (first + 1) slots) + 1)) (absent_behind first d slots apart) ∙ more

  -- a slab without slots makes the empty map
  pub held-empty : (slots : List (Option (Entry T N))) → slots ≡ [] → held slots ≡ empty
  unfolding held_from
  held-empty slots none = ap (held_from 0) none

  nothing_at : (s : Slab (Entry T N)) → s.slots ≡ [] → (p : ℕ) → birth_at s p ≡ None
  nothing_at s none p = ap (λ slots. option_map (λ (e : Entry T N). e.birth) (get_or slots p None)) none

  pub empty_tied : (s : Slab (Entry T N)) (IsFor : (ℕ → Option ℕ) → Type 0) → s.slots ≡ [] → ((at : ℕ → Option ℕ) → ((p : ℕ) → at p ≡ None) → IsFor at) → IsTied s IsFor
  empty_tied s IsFor none all = record {
    apart = λ p q b one two. let no = nothing_at s none p in absurd (cc);
    found = all (birth_at s) (nothing_at s none);
    told = λ p b at. let no = nothing_at s none p in absurd (cc);
  }

  -- as many births are seen as the slab has entries
  pub len-seen : (s : Slab (Entry T N)) (m : FinMap nat_cmp (IndexEntry T N)) → held s.slots ≡ m → IsApart s → slab_len s ≡ len m
  len-seen s m view apart = sym (len-held_from 0 s.slots (apart_from s apart)) ∙ ap len view

  -- what is seen under a birth that is at a place, or at none
  pub seen_at : (s : Slab (Entry T N)) (m : FinMap nat_cmp (IndexEntry T N)) → held s.slots ≡ m → IsApart s → (p b : ℕ) → birth_at s p ≡ Some b → option_map (seen p) (get s p) ≡ map_get m b
  seen_at s m view apart p b is =
      let w = entry_there s p b is in
      ap (option_map (seen p)) w.1 ∙ sym (read_there s apart p w.0 w.1) ∙ ap (map_get (held s.slots)) w.2 ∙ ap (λ n. map_get n b) view

  pub seen_nowhere : (s : Slab (Entry T N)) (m : FinMap nat_cmp (IndexEntry T N)) → held s.slots ≡ m → (b : ℕ) → ((p : ℕ) → birth_at s p ≢ Some b) → map_get m b ≡ None
  seen_nowhere s m view b none = ap (λ n. map_get n b) (sym view) ∙ read_nowhere s b none

  -- a birth is at the place that is seen under it
  pub at_seen : (s : Slab (Entry T N)) (m : FinMap nat_cmp (IndexEntry T N)) → held s.slots ≡ m → (b p : ℕ) (e : Entry T N) → Some (seen p e) ≡ map_get m b → birth_at s p ≡ Some b
  at_seen s m view b p e is =
      elim (in_or_out s.slots b) [
        | inl at ↦
            let same = same_Some _ _ (is ∙ ap (λ n. map_get n b) (sym view) ∙ at.read) in
            ap (birth_at s) (ap (λ (r : IndexEntry T N). r.place) same ∙ zero-add at.place) ∙ birth_there s at.place b at.entry at.there at.birth
        | inr out ↦ let none = is ∙ ap (λ n. map_get n b) (sym view) ∙ out.read in absurd (cc)
      ]

  -- a search for a birth tells the place that is seen
  pub place_where : (s : Slab (Entry T N)) (m : FinMap nat_cmp (IndexEntry T N)) → held s.slots ≡ m → IsApart s → (b : ℕ) (r : Option ℕ) → IfSome r (λ p. birth_at s p ≡ Some b) → IfNone r ((p : ℕ) → birth_at s p ≢ Some b)
      → r ≡ option_map (λ (e : IndexEntry T N). e.place) (map_get m b)
  place_where s m view apart b None found absent = sym (ap (option_map (λ (e : IndexEntry T N). e.place)) (seen_nowhere s m view b absent))
  place_where s m view apart b (Some p) found absent =
      let w = entry_there s p b found in
      ap (λ o. option_map (λ (e : IndexEntry T N). e.place) (option_map (seen p) o)) (sym w.1) ∙ ap (option_map (λ (e : IndexEntry T N). e.place)) (seen_at s m view apart p b found)

  -- the map that is seen beside a table of buckets
  pub entries_seen : (m : FinMap nat_cmp (IndexEntry T N)) (t : Buckets) (n : ℕ) (i : Indexed T N) → record { entries = m; buckets = t; room = n } ≡ i → m ≡ i.entries
  entries_seen m t n i view = ap (λ (i : Indexed T N). i.entries) view

  -- what is seen once the map has changed, and the table hasn't
  pub changed_seen : (m : FinMap nat_cmp (IndexEntry T N)) (t : Buckets) (n : ℕ) (i : Indexed T N) → record { entries = m; buckets = t; room = n } ≡ i → (new other : FinMap nat_cmp (IndexEntry T N)) (k : ℕ) → new ≡ other → record { entries = new; buckets = t; room = k } ≡ record i { entries = other; room = k }
  changed_seen m t n i view new other k same = ap (λ e. record { entries = e; buckets = t; room = k }) same ∙ ap (λ (i : Indexed T N). record i { entries = other; room = k }) view

  -- the same where there is as much room as before
  pub changed_alike : (m : FinMap nat_cmp (IndexEntry T N)) (t : Buckets) (n : ℕ) (i : Indexed T N) → record { entries = m; buckets = t; room = n } ≡ i → (new other : FinMap nat_cmp (IndexEntry T N)) (k : ℕ) → new ≡ other → k ≡ n → record { entries = new; buckets = t; room = k } ≡ record i { entries = other }
  changed_alike m t n i view new other k same alike = changed_seen m t n i view new other k same ∙ ap (λ r. record i { entries = other; room = r }) (alike ∙ ap (λ (i : Indexed T N). i.room) view)
