-- Places in the order of their births.
use Rattle.std.specs.Prelude.{◌≡◌, ℕ, zero, suc, ◌+◌, ◌-◌, ◌^◌, ◌<◌, ◌≤◌, min, Bool, true, nat_eq, List, length, slice_index}
use Rattle.std.specs.Prelude.{Option, Some, None, IsSome, is_some}
use Rattle.std.specs.List.{list_any, slice_get}
use Rattle.slab.specs.Slab.{Slab, get}
use Rattle.intern_index.specs.declared.row.Row.{Row}

-- a birth, or zero where there is none
abbrev pub birth_or_zero : Option ℕ → ℕ
birth_or_zero None = 0
birth_or_zero (Some b) = b

-- whether a place has an entry
abbrev pub is_occupied : {X : Type 0} → Slab X → ℕ → Bool
is_occupied s p = is_some (get s p)

-- all places with a birth, in the order of their births
pub record IsOrder (places : List ℕ) (at : ℕ → Option ℕ) : Type 0 where
  pub there : (i : ℕ) → i < length places → IsSome (at (slice_index places i))
  pub rising : (i j : ℕ) → i < j → j < length places
      → birth_or_zero (at (slice_index places i)) < birth_or_zero (at (slice_index places j))
  pub listed : (p b : ℕ) → at p ≡ Some b → list_any (nat_eq p) places ≡ true

-- births in row with their places, or else listed
abbrev pub IsOrdered : Option Row → List ℕ → (ℕ → Option ℕ) → Type 0
IsOrdered (Some row) places at = (p b : ℕ) → at p ≡ Some b → p + row.shift ≡ b
IsOrdered None places at = IsOrder places at

-- one more birth can be entered with a place: it is in row, or the list has room
abbrev pub HasRoomFor : Option Row → ℕ → ℕ → ℕ → ℕ → Type 0
HasRoomFor (Some row) len capacity b p = p + row.shift ≡ b
HasRoomFor None len capacity b p = len < capacity

-- how many more births can be entered with no request for memory, once there are so many
-- entries: a list takes them all as the row is broken
abbrev pub free_places : Option Row → ℕ → ℕ → ℕ → ℕ
free_places (Some row) entries len capacity = capacity - entries
free_places None entries len capacity = capacity - len

-- the place of the rank before one, if there is one
abbrev pub place_before : List ℕ → ℕ → Option ℕ
place_before places zero = None
place_before places (suc n) = slice_get places n

-- from where the next place is looked for
abbrev pub place_after : Option ℕ → ℕ
place_after None = 0
place_after (Some p) = min (p + 1) (2 ^ 64 - 1)

-- what is told is the place of this rank, where the place of the rank before was given
pub record IsPlaced (at : ℕ → Option ℕ) (rank : ℕ) (before told : Option ℕ) : Type 0 where
  pub places : List ℕ
  pub order : IsOrder places at
  pub ranked : rank ≤ length places → before ≡ place_before places rank → told ≡ slice_get places rank
