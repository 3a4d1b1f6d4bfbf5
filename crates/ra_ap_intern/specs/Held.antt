-- How often entries are counted, and how often their names are held.
use Rattle.std.specs.Prelude.{◌≡◌, ◌<◌, ℕ, List, Some}
use Rattle.std.specs.FinMap as map
use Rattle.std.specs.List.{count_by}
use Rattle.std.specs.Option.{unwrap_or}
use Rattle.intern_store.specs.Kept.{Kept}
use Rattle.intern_store.specs.Named.{same_name}
use Rattle.intern_store.specs.State.{State, entry_at, counts}
use Rattle.intern_store.specs.declared.names.Name.{Name}

-- how often a name stands in a list
abbrev pub times_held : List Name → Name → ℕ
times_held held n = count_by (same_name n) held

module _ {V : Type 0} where
  -- the count of the entry of a name; none counts zero
  abbrev pub times_counted : State V → Name → ℕ
  times_counted s n = unwrap_or (counts s n) 0

  -- each entry is counted as often as its name is held: of a storage all of whose owned handles lie
  -- in one place
  abbrev pub IsBalanced : State V → List Name → Type 0
  IsBalanced s held = (n : Name) → times_counted s n ≡ times_held held n

  -- no entry has count zero, as where entries go with their last handle
  abbrev pub IsCounted : State V → Type 0
  IsCounted s = (b : ℕ) (k : Kept V) → entry_at s b ≡ Some k → 0 < k.count

  -- with no entry, where the next birth stays
  abbrev pub emptied : State V → State V
  emptied s = record s { map = map.empty }
