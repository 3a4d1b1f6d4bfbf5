-- Storages whose values declare earlier ones, and the lines of values that lead up from a name.
use Rattle.std.specs.Prelude.{◌≡◌, ◌<◌, ℕ, zero, suc, true, List, [], ◌∷◌, ◌++◌, Option, Some, None, IsSome, option_and_then}
use Rattle.std.specs.List.{last_or}
use Rattle.std.specs.Option.{option_map, option_or}
use Rattle.intern_marks.specs.Names.{has}
use Rattle.intern_store.specs.State.{State, reads, due, any_count}
use Rattle.intern_store.specs.declared.names.Name.{Name}
use Rattle.intern_store.specs.declared.refusal.Refusal.{Refusal}

-- a name is of the same storage as another, and of an earlier birth
pub record IsBefore (name later : Name) : Type 0 where
  pub storage : name.storage ≡ later.storage
  pub birth : name.birth < later.birth

module _ {V : Type 0} where
  -- each child of what is read is before it
  abbrev pub Falls : (V → List Name) → State V → Type 0
  Falls children s = (name child : Name) (v : V) → reads s name ≡ Some v
      → has (children v) child ≡ true → IsBefore child name

  -- and is read too
  pub record IsBuilt (children : V → List Name) (s : State V) : Type 0 where
    pub falls : Falls children s
    pub stands : (name child : Name) (v : V) → reads s name ≡ Some v
        → has (children v) child ≡ true → IsSome (reads s child)

  -- the refusal of a parent that can't be read, if there is a parent
  abbrev pub due_parent : State V → Option Name → Option Refusal
  due_parent s None = None
  due_parent s (Some name) = due s name any_count

  -- the refusal of the first of several names that can't be read, if there is one
  abbrev pub due_each : State V → List Name → Option Refusal
  due_each s [] = None
  due_each s (name ∷ names) = option_or (due s name any_count) (due_each s names)

-- what is seen of a value, followed by what is above it, if it has a parent
abbrev pub line_from : {X : Type 0} → X → (Name → Option (List X)) → Option Name → Option (List X)
line_from x above None = Some (x ∷ [])
line_from x above (Some name) = option_map (λ xs. x ∷ xs) (above name)

module _ {V X : Type 0} where
  -- the same of what is read, if anything is
  abbrev pub line_at : (V → Option Name) → (V → X) → (Name → Option (List X)) → Option V
      → Option (List X)
  line_at parent see above None = None
  line_at parent see above (Some v) = line_from (see v) above (parent v)

  -- in so many steps at most
  abbrev pub line_within : (V → Option Name) → (V → X) → State V → ℕ → Name → Option (List X)
  line_within parent see s zero name = None
  line_within parent see s (suc more) name =
      line_at parent see (line_within parent see s more) (reads s name)

  -- what is seen of the value of a name, of its parent's, and so on up to one without a parent:
  -- none, where one of them isn't read
  unfoldable pub line : (V → Option Name) → (V → X) → State V → Name → Option (List X)
  line parent see s name = line_within parent see s (suc name.birth) name

  -- what is seen of the last of these: of the value without a parent to which a name leads
  abbrev pub line_end : (V → Option Name) → (V → X) → State V → Name → Option X
  line_end parent see s name = option_and_then (last_or None) (line parent see s name)

  -- what a loop that goes up has seen, followed by the line of the next name, if there is one
  abbrev pub line_rest : (V → Option Name) → (V → X) → State V → List X → Option Name
      → Option (List X)
  line_rest parent see s xs None = Some xs
  line_rest parent see s xs (Some name) = option_map (λ ys. xs ++ ys) (line parent see s name)

-- what is seen of a value, if it has no parent, or else at the end above it
abbrev pub end_from : {X : Type 0} → X → (Name → Option X) → Option Name → Option X
end_from x above None = Some x
end_from x above (Some name) = above name

-- how many steps such a loop may still take: as many as births lie below, if there is a next name
abbrev pub steps_left : Option Name → ℕ
steps_left None = 0
steps_left (Some name) = suc name.birth
