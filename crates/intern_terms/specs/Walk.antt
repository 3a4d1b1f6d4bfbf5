-- Walks over terms.
use Rattle.std.specs.Prelude.{◌≡◌, ℕ, ◌<◌, ◌≤◌, Bool, true, false, ◌&&◌, List, [], ◌∷◌, ◌++◌, Option, Some, None, is_some, slice_get, if◌then◌else◌}
use Rattle.ra_ap_intern.specs.Names.{has}
use Rattle.ra_ap_intern.specs.Name.{Name}
use Rattle.ra_ap_intern.specs.Reach.{Reached}
use Rattle.ra_ap_intern.specs.Sliced.{Sliced}
use Rattle.ra_ap_intern.specs.State.{State, reads}
use Rattle.ra_ap_intern.specs.declared.symbol.Symbol.{Symbol}
use Rattle.intern_terms.specs.Handle.{term_name}
use Rattle.intern_terms.specs.Store.{arguments, terms_of}
use Rattle.intern_terms.specs.declared.handle.TermRef.{TermRef}

-- a walk begins at the listed names that are those of terms
abbrev pub begins_at : List Name → State (Sliced Symbol TermRef) → Name → Bool
begins_at listed s name = is_some (reads s name) && has listed name

-- the arguments of what a name reads, where it reads a term
abbrev pub items_of : Option (Sliced Symbol TermRef) → List TermRef
items_of None = []
items_of (Some v) = v.items

abbrev pub items_at : State (Sliced Symbol TermRef) → Name → List TermRef
items_at s name = items_of (reads s name)

-- each of these names comes once, and after each argument of its term; other names came before
abbrev pub InOrder : State (Sliced Symbol TermRef) → List Name → List Name → Type 0
InOrder s before [] = Unit {0}
InOrder s before (name ∷ names) = (has before name ≡ false)
    × ((v : Sliced Symbol TermRef) (argument : Name) → reads s name ≡ Some v
    → has (arguments v) argument ≡ true → has before argument ≡ true)
    × InOrder s (name ∷ before) names

-- what a walk has found: in order, and in the trees of the listed terms
pub record IsWalk (listed : List Name) (s : State (Sliced Symbol TermRef)) (found : List Name)
    : Type 0
  where
    pub order : InOrder s [] found
    pub reached : (name : Name) → has found name ≡ true
        → Reached (begins_at listed s) (terms_of s) name

-- the arguments from one position up to another were found
abbrev pub AreFound : List Name → List TermRef → ℕ → ℕ → Type 0
AreFound found items from to = (k : ℕ) (argument : TermRef) → from ≤ k → k < to
    → slice_get items k ≡ Some argument → has found (term_name argument) ≡ true

-- with a name behind the others, unless it is there
abbrev pub with_name : List Name → Name → List Name
with_name names name = if has names name then names else names ++ name ∷ []
