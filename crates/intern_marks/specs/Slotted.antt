-- What is in slots.
use Rattle.std.specs.Prelude.{◌≡◌, ℕ, zero, suc, ◌≤◌, Bool, true, false, List, length, map as list_map, if◌then◌else◌, slice_index_or, Option, Some, None, IsSome, vec_capacity}
use Rattle.std.specs.List.{All}
use Rattle.std.specs.Option.{option_map}
use Rattle.std.specs.FinMap as map
use Rattle.intern_store.specs.Named.{same_name}
use Rattle.intern_store.specs.declared.names.Name.{Name}
use Rattle.intern_marks.specs.Names.{name_cmp}
use Rattle.intern_marks.specs.Parts.{covers, part_at, row_birth, row_at, last_part}
use Rattle.intern_marks.specs.declared.flags.Flags.{Flags}
use Rattle.intern_marks.specs.declared.flags.Registered.{Registered}
use Rattle.intern_marks.specs.declared.part.Part.{Part}
use Rattle.intern_marks.specs.declared.slots.Slots.{Slots}

-- how many slots there are
abbrev pub slot_count : Slots → ℕ
slot_count s = length s.flags.items

-- the flags in a slot, where it isn't vacant
abbrev pub flags_at : Slots → ℕ → Option Flags
flags_at s i = slice_index_or s.flags.items i None

-- what is registered where births are in row or aren't, with the name in row, the birth that is
-- listed, and flags
abbrev pub registered : Bool → Option Name → ℕ → Option Flags → Option Registered
registered in_row None listed flags = None
registered in_row (Some name) listed None = None
registered in_row (Some name) listed (Some flags) = Some (record {
  name = if in_row then name else record name { birth = listed };
  flags = flags;
})

-- what is registered in a slot
abbrev pub registered_at : Slots → ℕ → Option Registered
registered_at s i = registered s.in_row (row_at s.parts.items i)
    (slice_index_or s.births.items i 0) (flags_at s i)

-- the birth in a slot of a part
abbrev pub birth_in : Slots → Part → ℕ → ℕ
birth_in s p i = if s.in_row then row_birth p i else slice_index_or s.births.items i 0

-- a part is that of each slot that it covers
abbrev pub IsThere : Slots → Part → Type 0
IsThere s p = (i : ℕ) → covers i p ≡ true → part_at s.parts.items i ≡ Some p

-- an entry of the last part's storage, whose birth is told by a slot where births are in row
abbrev pub IsNext : Slots → Name → ℕ → Type 0
IsNext s x i = (p : Part) × (last_part None s.parts.items ≡ Some p) × (p.number ≡ x.storage)
    × (s.in_row ≡ true → row_birth p i ≡ x.birth)

-- the name in a slot
abbrev pub name_at : Slots → ℕ → Option Name
name_at s i = option_map (λ r. r.name) (registered_at s i)

-- whether this is registered under a name
abbrev pub has_name : Name → Option Registered → Bool
has_name x None = false
has_name x (Some r) = same_name x r.name

-- the name of what is registered; that of nothing is never asked for
abbrev pub name_in : Option Registered → Name
name_in None = record { storage = 0; birth = 0 }
name_in (Some r) = r.name

-- the names in these slots
abbrev pub names_at : Slots → List ℕ → List Name
names_at s slots = list_map (λ i. name_in (registered_at s i)) slots

-- none of these slots is vacant
abbrev pub AreTaken : Slots → List ℕ → Type 0
AreTaken s slots = All (λ i. IsSome (registered_at s i)) slots

-- with flags that have a mark
abbrev pub with_mark : Flags → Flags
with_mark f = record f { is_marked = true }

-- a name is registered in a slot, with these flags
abbrev pub IsAt : Slots → ℕ → Name → Flags → Type 0
IsAt s i x f = registered_at s i ≡ Some (record { name = x; flags = f })

-- no two slots have one name
abbrev pub AreApart : (ℕ → Option Registered) → Type 0
AreApart at = (i j : ℕ) (q r : Registered) → at i ≡ Some q → at j ≡ Some r → q.name ≡ r.name → i ≡ j

-- with what is registered in one more slot
abbrev pub with_slot : Option Registered → map.FinMap name_cmp Bool → map.FinMap name_cmp Bool
with_slot None m = m
with_slot (Some r) m = map.insert m r.name r.flags.is_counted

-- the names in the slots below this one, each with whether it is counted
unfoldable pub names_below : (ℕ → Option Registered) → ℕ → map.FinMap name_cmp Bool
names_below at zero = map.empty
names_below at (suc n) = with_slot (at n) (names_below at n)

-- the names in all slots
abbrev pub names_in : Slots → map.FinMap name_cmp Bool
names_in s = names_below (registered_at s) (slot_count s)

-- there is room for this many slots
abbrev pub HasRoom : Slots → ℕ → Type 0
HasRoom s slots = (slots ≤ vec_capacity s.flags)
    × (s.in_row ≡ false → slots ≤ vec_capacity s.births)
