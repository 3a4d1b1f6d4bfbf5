-- Which queries cells with formulas need.
use Rattle.std.specs.Prelude.{◌≡◌, ◌↔◌, ◌⊎◌, ℕ, true, List, [], ◌∷◌, Some, IsSome, slice_get}
use Rattle.std.specs.List.{Contains}
use Rattle.ra_ap_intern.specs.Name.{Name}
use Rattle.ra_ap_intern.specs.Names.{has}
use Rattle.ra_ap_intern.specs.State.{State, reads}
use Rattle.queries.specs.declared.key.Key.{Key}
use Rattle.queries.specs.declared.key.Key.TheVariants.{Cell}
use Rattle.queries.specs.declared.place.Place.{Place}
use Rattle.queries.specs.Sheet.{Formulas, formula_at, reads_of}

-- a query is stored
abbrev pub HasHandle : State Key → Key → Type 0
HasHandle keys key = (name : Name) × (reads keys name ≡ Some key)

-- a cell has a formula
abbrev pub IsFormulaCell : Formulas → Key → Type 0
IsFormulaCell sheet key = (place : Place) × (key ≡ Cell place) × IsSome (formula_at sheet place)

-- a cell with a formula leads to a query: each of these queries, the last first, reads the one
-- before it, which has a handle
abbrev pub LeadsTo : Formulas → State Key → List Key → Key → Type 0
LeadsTo sheet keys [] key = IsFormulaCell sheet key
LeadsTo sheet keys (reader ∷ readers) key =
    Contains (reads_of sheet reader) key × HasHandle keys key × LeadsTo sheet keys readers reader

-- a cell with a formula leads to it
abbrev pub IsNeeded : Formulas → State Key → Key → Type 0
IsNeeded sheet keys key = (readers : List Key) × LeadsTo sheet keys readers key

-- the names of the needed queries are in a list, and no other
abbrev pub AreNeeded : Formulas → State Key → List Name → Type 0
AreNeeded sheet keys names = (name : Name) → (has names name ≡ true)
    ↔ ((key : Key) × (reads keys name ≡ Some key) × IsNeeded sheet keys key)

-- those of the reads that have handles were added to a list
pub record TakesReads (keys : State Key) (reads old new : List Key) : Type 0 where
  pub behind : (i : ℕ) (k : Key) → slice_get old i ≡ Some k → slice_get new i ≡ Some k
  pub each : (k : Key) → Contains new k → Contains old k ⊎ (Contains reads k × HasHandle keys k)
  pub all : (k : Key) → Contains reads k → HasHandle keys k → Contains new k
