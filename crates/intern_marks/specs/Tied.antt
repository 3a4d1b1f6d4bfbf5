-- What ties the slots, the table and what is marked together.
use Rattle.std.specs.Prelude.{◌≡◌, ℕ, ◌+◌, ◌<◌, ◌≤◌, ◌%◌, ◌^◌, true, List, Some, length}
use Rattle.std.specs.FinMap as map
use Rattle.intern_store.specs.declared.names.Name.{Name}
use Rattle.intern_buckets.specs.Mixed.{mixed}
use Rattle.intern_buckets.specs.Leading.{leads}
use Rattle.intern_marks.specs.Marks.{IsSound}
use Rattle.intern_marks.specs.Names.{has}
use Rattle.intern_marks.specs.Parts.{Follow}
use Rattle.intern_marks.specs.Slotted.{slot_count, registered_at, name_at, IsAt, AreApart, names_in, names_at, AreTaken}
use Rattle.intern_marks.specs.declared.flags.Flags.{Flags}
use Rattle.intern_marks.specs.declared.found.Found.{Found}
use Rattle.intern_marks.specs.declared.found.Table.{Table}
use Rattle.intern_marks.specs.declared.slots.Slots.{Slots}

-- the hash of a name
abbrev pub hash_of : Name → ℕ
hash_of x = mixed ((x.birth + mixed x.storage) % 2 ^ 64)

-- a name was found
abbrev pub IsFound : Slots → Name → Found → Type 0
IsFound s x found = IsAt s found.slot x found.flags

-- no slot has a name
abbrev pub IsNowhere : Slots → Name → Type 0
IsNowhere s x = (i : ℕ) (f : Flags) → IsAt s i x f → ⊥

-- if the table is filled, the probe sequence of its hash leads to each name's slot
abbrev pub IsLed : Slots → Table → Type 0
IsLed s t = t.is_filled ≡ true → (i : ℕ) (x : Name) → name_at s i ≡ Some x →
    leads t.buckets (hash_of x) i ≡ true

pub record IsTied (s : Slots) (t : Table) (size : ℕ) (marked : List Name) (visits capacity : ℕ)
    : Type 0
  where
    -- the parts follow one another over all slots
    pub follow : Follow 0 s.parts.items (slot_count s)
    pub apart : AreApart (registered_at s)
    pub led : IsLed s t
    -- buckets tell the slots apart
    pub told : slot_count s < 2 ^ 48
    pub sized : size ≡ map.len (names_in s)
    -- the flags tell what is marked
    pub flagged : (i : ℕ) (x : Name) (f : Flags) → IsAt s i x f → has marked x ≡ f.is_marked
    pub sound : IsSound (names_in s) marked
    pub within : visits ≤ length marked
    -- all that is registered can be marked
    pub room : size ≤ capacity

-- the same, where what is marked is told by slots
pub record IsKept (s : Slots) (t : Table) (size : ℕ) (marked : List ℕ) (visits capacity : ℕ)
    : Type 0
  where
    pub tied : IsTied s t size (names_at s marked) visits capacity
    pub taken : AreTaken s marked
