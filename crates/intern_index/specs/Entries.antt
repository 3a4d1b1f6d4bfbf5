-- The entries of a slab, and the map that they make.
use Rattle.std.specs.Prelude.{◌≡◌, ℕ, ◌+◌, ◌<◌, ◌^◌, Bool, false, List, [], ◌∷◌, Option, Some, None}
use Rattle.std.specs.Option.{option_map, option_map_or}
use Rattle.std.specs.Ordering.{nat_cmp}
use Rattle.std.specs.FinMap.{FinMap, empty, insert}
use Rattle.slab.specs.Slab.{Slab, get}
use Rattle.intern_index.specs.IndexEntry.{IndexEntry}
use Rattle.intern_index.specs.declared.entry.Entry.{Entry}

module _ {T N : Type 0} where
  -- what is seen under its birth of an entry at a place
  abbrev pub seen : ℕ → Entry T N → IndexEntry T N
  seen p e = record { place = p; value = e.value; payload = e.payload }

  -- the map of the births in these slots, the first of which has this place
  unfoldable pub held_from : ℕ → List (Option (Entry T N)) → FinMap nat_cmp (IndexEntry T N)
  held_from p [] = empty
  held_from p (None ∷ slots) = held_from (p + 1) slots
  held_from p (Some e ∷ slots) = insert (held_from (p + 1) slots) e.birth (seen p e)

  abbrev pub held : List (Option (Entry T N)) → FinMap nat_cmp (IndexEntry T N)
  held slots = held_from 0 slots

  -- the birth at a place
  abbrev pub birth_at : Slab (Entry T N) → ℕ → Option ℕ
  birth_at s p = option_map (λ e. e.birth) (get s p)

  -- whether there is an entry at a place, and it passes a test
  abbrev pub passes_at : (Entry T N → Bool) → Slab (Entry T N) → ℕ → Bool
  passes_at passes s p = option_map_or passes (get s p) false

  -- buckets tell the places of the entries apart
  abbrev pub AreTold : Slab (Entry T N) → Type 0
  AreTold s = (p b : ℕ) → birth_at s p ≡ Some b → p + 1 < 2 ^ 48

  -- the slab's entries, and what finds their births
  pub record IsTied (s : Slab (Entry T N)) (IsFor : (ℕ → Option ℕ) → Type 0) : Type 0 where
    -- no two places have one birth
    pub apart : (p q b : ℕ) → birth_at s p ≡ Some b → birth_at s q ≡ Some b → p ≡ q
    -- each birth is found
    pub found : IsFor (birth_at s)
    pub told : AreTold s
