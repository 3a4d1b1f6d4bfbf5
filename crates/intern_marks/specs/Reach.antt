-- What the entries of a family declare, and what their paths reach.
use Rattle.std.specs.Prelude.{ℕ, ◌-◌, ◌^◌, min, Bool, true, false, not, ◌&&◌, ◌||◌, ◌==◌, List, [], ◌∷◌, length, Option, Some, None, is_some, ◌≡◌, ◌↔◌}
use Rattle.std.specs.List.{find, filter, sum_by, IsDistinct}
use Rattle.intern_store.specs.declared.names.Name.{Name}
use Rattle.intern_store.specs.Named.{same_name}
use Rattle.intern_marks.specs.Names.{has}

-- an entry: its name, its count, and the names that its value declares
pub record Entry : Type 0 where
  pub name : Name
  pub count : ℕ
  pub children : List Name

-- the entry of a name
abbrev pub entry_of : List Entry → Name → Option Entry
entry_of family name = find (λ e. same_name name e.name) family

-- whether a name is that of an entry
abbrev pub is_entry : List Entry → Name → Bool
is_entry family name = is_some (entry_of family name)

-- whether a count isn't zero
abbrev pub is_counted : ℕ → Bool
is_counted count = not (count == 0)

abbrev pub counted_entry : Option Entry → Bool
counted_entry None = false
counted_entry (Some e) = is_counted e.count

abbrev pub children_of : Option Entry → List Name
children_of None = []
children_of (Some e) = e.children

-- the names that the entry of a name declares
abbrev pub children_in : List Entry → Name → List Name
children_in family name = children_of (entry_of family name)

-- a collection begins at the counted entries
abbrev pub starts : List Entry → Name → Bool
starts family name = counted_entry (entry_of family name)

-- or also at the entries of the names in a list
abbrev pub starts_with : List Name → List Entry → Name → Bool
starts_with listed family name = starts family name || (is_entry family name && has listed name)

-- a path to a name, with the names before it, the nearest first: it begins at a name of these, and
-- each next name is that of an entry, and declared by the one before
abbrev pub IsPath : (Name → Bool) → List Entry → List Name → Name → Type 0
IsPath begins family [] name = begins name ≡ true
IsPath begins family (parent ∷ before) name = (is_entry family name ≡ true)
    × (has (children_in family parent) name ≡ true) × IsPath begins family before parent

-- a path ends at the name
abbrev pub Reached : (Name → Bool) → List Entry → Name → Type 0
Reached begins family name = (before : List Name) × IsPath begins family before name

-- a list has each reached name once, and no other
pub record IsReachedSet (begins : Name → Bool) (family : List Entry) (names : List Name)
    : Type 0
  where
    pub once : IsDistinct same_name names
    pub reached : (name : Name) → (has names name ≡ true) ↔ Reached begins family name

-- how many children the entries of these names declare, up to the greatest u64
abbrev pub calls_of : List Entry → List Name → ℕ
calls_of family names = min (sum_by (λ name. length (children_in family name)) names) (2 ^ 64 - 1)

-- the entries whose names are in a list
abbrev pub kept_entries : List Entry → List Name → List Entry
kept_entries family names = filter (λ e. has names e.name) family

-- each child of an entry is the name of an entry
abbrev pub IsClosed : List Entry → Type 0
IsClosed family = (parent name : Name) → has (children_in family parent) name ≡ true
    → is_entry family name ≡ true
