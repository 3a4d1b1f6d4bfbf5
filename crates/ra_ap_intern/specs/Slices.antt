-- What a storage of slices has, and what is read of an entry.
use Rattle.std.specs.Prelude.{ℕ, Bool, List, map as list_map, length, Option}
use Rattle.std.specs.FinMap as map
use Rattle.intern_store.specs.State.{State, Stored, name_in, interned, interned_name, is_new, due_interning, any_count, given_back}
use Rattle.intern_store.specs.declared.names.Name.{Name}
use Rattle.intern_store.specs.declared.refusal.Refusal.{Refusal}
use Rattle.intern_table.specs.Sliced.{Sliced}

-- the pair of a header and its items
abbrev pub slice_of : {H I : Type 0} → H → List I → Sliced H I
slice_of header items = record { header = header; items = items }

-- a header with its items, and how many these are
abbrev pub sized : {H I : Type 0} → Sliced H I → Sliced H I × ℕ
sized v = (v, length v.items)

-- a slice that a table lists under its birth, with its name in the storage of this number
abbrev pub slice_with_name : {H I : Type 0} → ℕ → ℕ × (Sliced H I × ℕ) → Name × (Sliced H I × ℕ)
slice_with_name number e = (record { storage = number; birth = e.0 }, e.1)

-- the name of each entry, with its header and items, and how many these are
abbrev pub named_slices : {H I : Type 0} → State (Sliced H I) → List (Name × (Sliced H I × ℕ))
named_slices s = list_map (λ e. (name_in s e.0, sized e.1.value)) (map.entries s.map)

module _ {H I : Type 0} (eq : Sliced H I → Sliced H I → Bool) (s : State (Sliced H I))
    (header : H) (items : List I) where
  -- a header with its items stored, under the birth that they have or a new one
  abbrev pub slice_in : Stored (Sliced H I)
  slice_in = interned eq s (slice_of header items)

  -- the name under which they are stored
  abbrev pub slice_name_in : Name
  slice_name_in = interned_name eq s (slice_of header items)

  -- what comes back: the header, where they are stored
  abbrev pub slice_back : Option H
  slice_back = given_back eq s (slice_of header items) header

  -- the refusal of a call that interns them, before want of memory
  abbrev pub due_slice : Option Refusal
  due_slice = due_interning eq s (slice_of header items) any_count

  -- whether no equal pair is stored
  abbrev pub is_new_slice : Bool
  is_new_slice = is_new eq s (slice_of header items)
