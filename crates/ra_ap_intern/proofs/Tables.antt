-- A table of texts after each change.
use Rattle.std.proofs.Common.{◌≡◌, ℕ, ◌+◌, ◌-◌, true, false, List, Option, Some, None, Result, Ok, Err, sym, subst, arith}
use Rattle.std.specs.Str.{bytes_eq}
use Rattle.std.proofs.lemmas.Slice.Eq.{bytes_eq-Decides}
use Rattle.ra_ap_intern.proofs.CallerCounts.{counted_counted_up, counted_interned_counted, counted_released}
use Rattle.ra_ap_intern.proofs.CallerReads.{some_read, released_either}
use Rattle.intern_presets.specs.Presets.{place_of}
use Rattle.intern_store.specs.Kept.{Kept, recount}
use Rattle.intern_store.specs.Outcome.{Becomes}
use Rattle.intern_store.specs.State.{State, entry_at, name_in, with_count, counted_up, added, birth_of, name_of_value, or_added, interned_counted, released, due_found_full, found_counted}
use Rattle.intern_store.proofs.Compared.{get-inserted, get-modified}
use Rattle.intern_store.specs.declared.names.Name.{Name}
use Rattle.intern_store.specs.declared.refusal.Refusal.{Refusal}
use Rattle.intern_store.proofs.Births.{is_stored}
use Rattle.intern_store.proofs.States.{still}
use Rattle.ra_ap_intern.specs.Symbols.Named.{entry}
use Rattle.ra_ap_intern.specs.Symbols.{IsTable, symbol_in, due_symbol, named_in}

-- no entry has a preset's text
abbrev Others : State (List ℕ) → Type 0
Others s = (b : ℕ) (k : Kept (List ℕ)) → entry_at s b ≡ Some k → place_of k.value ≡ None

others_recounted : (f : ℕ → ℕ) (s : State (List ℕ)) (b : ℕ) → Others s
    → Others (with_count f s b (entry_at s b))
others_recounted f s b is = λ c k at. grind (arith, get-modified (recount f) s.map b c, is c)

others_added : (s : State (List ℕ)) (t : List ℕ) → place_of t ≡ None → Others s → Others (added s t)
others_added s t new is = λ c k at.
    grind (arith, get-inserted s.map s.next (record { value = t; count = 0 }) c, new, is c)

pub up_table : (s : State (List ℕ)) (b : ℕ) → IsTable s → IsTable (counted_up s b)
up_table s b is = record {
  positive = counted_counted_up s b is.positive;
  others = others_recounted (λ n. n + 1) s b is.others;
}

pub interned_table : (s : State (List ℕ)) (t : List ℕ) → place_of t ≡ None → IsTable s → IsTable (interned_counted bytes_eq s t)
interned_table s t new is = record {
  positive = counted_interned_counted bytes_eq s t is.positive;
  others = go (birth_of bytes_eq s t);
}
  where
    go : (o : Option ℕ) → Others (counted_up (or_added o s t).state (or_added o s t).birth)
    go None = others_recounted (λ n. n + 1) (added s t) s.next (others_added s t new is.others)
    go (Some b) = others_recounted (λ n. n + 1) s b is.others

pub released_table : (s : State (List ℕ)) (b : ℕ) → IsTable s → IsTable (released false s b)
released_table s b is = record {
  positive = counted_released s b is.positive;
  others = released_either Others false s b
      (λ c k at. is.others c k (still (λ x y. true) s.map b c k at))
      (others_recounted (λ n. n - 1) s b is.others);
}

-- a call that may be refused leaves one of two tables
pub either_table : {A E : Type 0} (r : Result A E) (old new next : State (List ℕ)) → Becomes r old new next → IsTable next → IsTable old → IsTable new
either_table (Ok a) old new next e next_is old_is = subst IsTable (sym e) next_is
either_table (Err why) old new next e next_is old_is = subst IsTable (sym e) old_is

-- a text that is stored is no preset
stored_other : (s : State (List ℕ)) (t : List ℕ) (b : ℕ) → IsTable s → birth_of bytes_eq s t ≡ Some b → place_of t ≡ None
stored_other s t b is stored = grind (arith, is_stored bytes_eq s t b stored, is.others b, bytes_eq-Decides t)

-- the entry of a text, if there is one, counted once more
pub found_table : (s : State (List ℕ)) (o : Option ℕ) → IsTable s → IsTable (found_counted o s)
found_table s None is = is
found_table s (Some b) is = up_table s b is

module _ (s : State (List ℕ)) (t : List ℕ) (is : IsTable s) where
  -- where its count is full, so is the symbol's
  pub found_due : (why : Refusal) → due_found_full (birth_of bytes_eq s t) s ≡ Some why → due_symbol s t ≡ Some why
  found_due why due = grind (arith, (λ (b : ℕ). stored_other s t b is))

  -- a name that is found is the symbol's
  module _ (n : Name) (found : Some n ≡ name_of_value bytes_eq s t) where
    there : (b : ℕ) × (birth_of bytes_eq s t ≡ Some b) × (n ≡ name_in s b)
    there =
        let b = some_read (birth_of bytes_eq s t) (grind (arith, found)) in
        (b.0, b.1, grind (arith, found, b.1))

    other : place_of t ≡ None
    other = stored_other s t there.0 is there.1

    pub found_named : named_in s t ≡ Some (entry n)
    found_named = grind (arith, other, found)

    pub found_symbol : (symbol_in s t).symbol ≡ entry n
    found_symbol = grind (arith, other, there.1, there.2)

    pub found_state : (symbol_in s t).table ≡ found_counted (birth_of bytes_eq s t) s
    found_state = grind (arith, other, there.1)
