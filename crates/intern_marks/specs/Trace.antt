-- What holds while a collection goes on.
use Rattle.std.specs.Prelude.{◌≡◌, ◌≤◌, Bool, true, List, length, Option}
use Rattle.std.specs.List.{IsDistinct}
use Rattle.std.specs.Option.{option_map}
use Rattle.std.specs.FinMap as map
use Rattle.intern_store.specs.declared.names.Name.{Name}
use Rattle.intern_store.specs.Named.{same_name}
use Rattle.intern_marks.specs.Names.{has}
use Rattle.intern_marks.specs.Marks.{Marks, visited}
use Rattle.intern_marks.specs.Reach.{Entry, entry_of, is_entry, is_counted, children_in, Reached, calls_of}

-- of a name, whether its entry is counted
abbrev pub counted_in : List Entry → Name → Option Bool
counted_in family name = option_map (λ e. is_counted e.count) (entry_of family name)

-- a collector has registered a family
abbrev pub Knows : Marks → List Entry → Type 0
Knows m family = (name : Name) → map.get m.registered name ≡ counted_in family name

-- between two visits
pub record IsTrace (begins : Name → Bool) (family : List Entry) (m : Marks) : Type 0 where
  pub known : Knows m family
  -- what is marked is reached
  pub reached : (name : Name) → has m.marked name ≡ true → Reached begins family name
  -- where paths begin is marked
  pub begun : (name : Name) → begins name ≡ true → has m.marked name ≡ true
  -- a child of what was visited is marked, where it is that of an entry
  pub closed : (parent name : Name) → has (visited m) parent ≡ true
      → has (children_in family parent) name ≡ true → is_entry family name ≡ true
      → has m.marked name ≡ true
  pub once : IsDistinct same_name m.marked
  pub within : m.visits ≤ length m.marked
  pub calls : m.calls ≡ calls_of family (visited m)
