-- The entries of a storage, by their names.
use Rattle.std.proofs.Common.{◌≡◌, ℕ, length, List, [], ◌∷◌, ◌++◌, Option, Some, None, is_some, refl, sym, ◌∙◌, arith}
use Rattle.std.specs.Option.{option_map}
use Rattle.std.specs.FinMap.{entries, len, len-entries}
use Rattle.std.proofs.lemmas.List.{length-map}
use Rattle.intern_marks.specs.Marks.{Marks, mark, marks}
use Rattle.intern_store.specs.State.{State, reads}
use Rattle.intern_store.specs.declared.names.Name.{Name}
use Rattle.intern_table.specs.Sliced.{Sliced}
use Rattle.intern_marks.specs.Reach.{is_entry, children_in}
use Rattle.ra_ap_intern.proofs.CallerLemmas.{entry_read}
use Rattle.ra_ap_intern.specs.Families.{entries_of}
use Rattle.ra_ap_intern.specs.Slices.{sized}
use Rattle.ra_ap_intern.specs.StorageLaws.{entry_named}

module _ {V : Type 0} (children : V → List Name) where
  -- the names that a value declares, where there is one
  abbrev pub declared : Option V → List Name
  declared None = []
  declared (Some v) = children v

  module _ (s : State V) where
    pub entries-length : length (entries_of children s) ≡ len s.map
    entries-length = length-map (entries s.map) _ ∙ sym (len-entries s.map)

    -- the children of a name's entry are those that the value declares
    pub read_children : (x : Name) → declared (reads s x) ≡ children_in (entries_of children s) x
    read_children x = grind (arith, entry_named children s x)

-- the same, of what is read of a slice together with its length
module _ {H I : Type 0} (children : Sliced H I → List Name) (s : State (Sliced H I)) (x : Name) (o : Option (Sliced H I × ℕ)) (is : o ≡ option_map sized (reads s x)) where
  pub shown_entry : is_some o ≡ is_entry (entries_of children s) x
  shown_entry = grind (arith, is, entry_read children s x)

  pub shown_children : declared children (option_map (λ r. r.0) o) ≡ children_in (entries_of children s) x
  shown_children = grind (arith, is, read_children children s x)

-- mark calls for two lists of names
pub marks-append : (m : Marks) (xs ys : List Name) → marks (marks m xs) ys ≡ marks m (xs ++ ys)
marks-append m [] ys = refl
marks-append m (x ∷ xs) ys = marks-append (mark m x) xs ys
