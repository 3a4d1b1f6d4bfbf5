-- For how many entries there is room.
use Rattle.std.specs.Prelude.{ℕ, ◌+◌, ◌*◌, ◌-◌, ◌^◌, ◌==◌, nat_lt, min, max, if◌then◌else◌}
use Rattle.slab.specs.Slab.{Slab, slab_len}
use Rattle.intern_buckets.specs.Filling.{spare_of}
use Rattle.intern_buckets.specs.declared.buckets.Buckets.{Buckets}

-- how many more a table takes with no request for memory: these before it is built anew, and as
-- many buckets as there is room for
abbrev pub free_in : ℕ → Buckets → ℕ
free_in left t = min left (spare_of t)

-- how many places there are in this many slots: none where buckets can't tell all of them apart
abbrev pub placed : ℕ → ℕ
placed slots = if nat_lt slots (2 ^ 48) then slots else 0

-- for how many more entries a table is built where there are this many
unfoldable pub grown : ℕ → ℕ
grown entries = if nat_lt entries (2 ^ 15) then entries * 3 else entries

module _ {X : Type 0} where
  -- for as many more as there are slots, and for at least 64
  abbrev pub room_for : Slab X → ℕ
  room_for s = min (slab_len s + max (max (grown (slab_len s)) s.capacity) 64) (2 ^ 64 - 1)

  -- how many may be entered once tables are built anew
  abbrev pub left_for : Slab X → ℕ
  left_for s = room_for s - slab_len s

  -- how many may be entered once there is room for one: tables are built anew where none may be
  abbrev pub left_then : ℕ → Slab X → ℕ
  left_then left s = if left == 0 then left_for s else left

  -- how many more entries are taken with no request for memory, where two tables take this many
  abbrev pub room_of : Slab X → ℕ → ℕ → ℕ
  room_of s hashes births = min (placed s.capacity - slab_len s) (min hashes births)
