-- Walks over values: from some names to what these declare, and on to all that is below.
use Rattle.std.specs.Prelude.{◌≡◌, ℕ, ◌+◌, Bool, true, ◌&&◌, ◌||◌, if◌then◌else◌, List, [], ◌∷◌, length, is_some, IsSome, Some}
use Rattle.intern_marks.specs.Names.{has}
use Rattle.intern_marks.specs.Reach.{Entry, Reached}
use Rattle.intern_store.specs.State.{State, reads}
use Rattle.intern_store.specs.declared.names.Name.{Name}
use Rattle.ra_ap_intern.specs.Families.{entries_of}

-- how many children the entries declare whose names a list lacks
abbrev pub children_left : List Name → List Entry → ℕ
children_left met [] = 0
children_left met (e ∷ family) =
    (if has met e.name then 0 else length e.children) + children_left met family

module _ {V : Type 0} (children : V → List Name) (s : State V) where
  -- a walk begins at those of its roots that are read
  abbrev pub begins_walk : List Name → Name → Bool
  begins_walk roots n = is_some (reads s n) && has roots n

  -- a name is that of a root, or of what is below one, and is read
  abbrev pub IsWithin : List Name → Name → Type 0
  IsWithin roots = Reached (begins_walk roots) (entries_of children s)

  -- a walk under way: what it met is below its roots, and so is what it has ahead, as far as that
  -- is read; and each root, and each child of what it met, is ahead or met, if it is read
  pub record IsWalk (roots ahead met : List Name) : Type 0 where
    pub met_within : (n : Name) → has met n ≡ true → IsWithin roots n
    pub ahead_within : (n : Name) → has ahead n ≡ true → IsSome (reads s n) → IsWithin roots n
    pub roots_there : (n : Name) → has roots n ≡ true → IsSome (reads s n)
        → (has ahead n || has met n) ≡ true
    pub children_there : (parent n : Name) (v : V) → has met parent ≡ true
        → reads s parent ≡ Some v → has (children v) n ≡ true → IsSome (reads s n)
        → (has ahead n || has met n) ≡ true

  -- how many turns it takes at most
  abbrev pub turns_left : List Name → List Name → ℕ
  turns_left ahead met = children_left met (entries_of children s) + length ahead
