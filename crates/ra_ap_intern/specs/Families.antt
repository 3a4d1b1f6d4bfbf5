-- Families of storages, as a collection sees them.
use Rattle.std.specs.Prelude.{◌≡◌, ℕ, ◌+◌, Bool, true, not, ◌&&◌, nat_eq, List, [], ◌∷◌, ◌++◌, length, map as list_map}
use Rattle.std.specs.List.{list_any, IsDistinct}
use Rattle.std.specs.FinMap as map
use Rattle.intern_marks.specs.Marks.{Marks}
use Rattle.intern_marks.specs.Names.{has}
use Rattle.intern_marks.specs.Reach.{Entry, IsReachedSet, is_entry, kept_entries, calls_of}
use Rattle.intern_store.specs.Named.{same_name}
use Rattle.intern_store.specs.State.{State, name_in, kept}
use Rattle.intern_store.specs.declared.names.Name.{Name}
use Rattle.intern_table.specs.Sliced.{Sliced}
use Rattle.ra_ap_intern.specs.declared.gc.Collected.{Collected}

module _ {V : Type 0} where
  -- the entries of a storage, each with the names that its value declares
  abbrev pub entries_of : (V → List Name) → State V → List Entry
  entries_of children s = list_map (λ e. record {
    name = name_in s e.0;
    count = e.1.count;
    children = children e.1.value;
  }) (map.entries s.map)

  -- a storage with the entries alone whose names are in a set
  abbrev pub kept_named : State V → (Name → Bool) → State V
  kept_named s set = kept s (λ b. set (name_in s b))

-- what a slice declares: what its header does, and then its items
abbrev pub sliced_children : {H I : Type 0} → (H → List Name) → (List I → List Name)
    → Sliced H I → List Name
sliced_children header items v = header v.header ++ items v.items

-- whether a number is among these
abbrev pub has_number : List ℕ → ℕ → Bool
has_number numbers n = list_any (nat_eq n) numbers

-- whether two lists have a number in common
abbrev pub meet : List ℕ → List ℕ → Bool
meet numbers others = list_any (has_number others) numbers

-- whether no number is there twice
abbrev pub are_distinct : List ℕ → Bool
are_distinct [] = true
are_distinct (n ∷ numbers) = not (has_number numbers n) && are_distinct numbers

-- what the counts in the storage of a number tell of its entries: their names, and the counts
abbrev pub counted_entries : ℕ → List (ℕ × ℕ) → List Entry
counted_entries number counts = list_map (λ c. record {
  name = record { storage = number; birth = c.0 };
  count = c.1;
  children = [];
}) counts

-- what a collection tells, where it leaves the entries of these names
pub record IsCollection (begins : Name → Bool) (family : List Entry) (names : List Name)
    (told : Collected) : Type 0
  where
    -- they are those that paths reach, each once
    pub reached : IsReachedSet begins family names
    pub visits : told.visits ≡ length names
    pub mark_calls : told.mark_calls ≡ calls_of family names
    pub removed : told.removed + length (kept_entries family names) ≡ length family

-- marks at the end of a trace over these entries: each marked one was visited
pub record IsTraceOf (family : List Entry) (m : Marks) : Type 0 where
  pub once : IsDistinct same_name m.marked
  pub there : (name : Name) → has m.marked name ≡ true → is_entry family name ≡ true
  pub visits : m.visits ≡ length m.marked
  pub size : map.len m.registered ≡ length family

-- where they are what paths reach
pub record IsTraced (begins : Name → Bool) (family : List Entry) (m : Marks) : Type 0 where
  pub reached : IsReachedSet begins family m.marked
  pub mark_calls : m.calls ≡ calls_of family m.marked
  pub trace : IsTraceOf family m
