-- What a spreadsheet has, and what a collection leaves of it.
use Rattle.std.specs.Prelude.{◌≡◌, ◌↔◌, ◌⊎◌, ℕ, ◌+◌, true, List, Some, refl}
use Rattle.std.specs.Coded.{Coded, code_by, coded×}
use Rattle.std.specs.FinMap as map
use Rattle.ra_ap_intern.specs.Families.{kept_named}
use Rattle.ra_ap_intern.specs.Name.{Name}
use Rattle.ra_ap_intern.specs.Names.{has}
use Rattle.ra_ap_intern.specs.Reach.{starts}
use Rattle.ra_ap_intern.specs.State.{State, state_code, reads}
use Rattle.queries.specs.declared.cache.Counts.{Counts}
use Rattle.queries.specs.declared.key.Key.{Key}
use Rattle.queries.specs.Cache.{queries_of}
use Rattle.queries.specs.Needed.{IsNeeded}
use Rattle.queries.specs.Sheet.{Formulas}

-- the formulas, the queries that have handles, and how queries were answered
pub record Book : Type 0 where
  pub sheet : Formulas
  pub keys : State Key
  pub counts : Counts

abbrev pub book_code : Coded Formulas → Coded Key → Coded Counts → Coded Book
book_code sheet key counts =
    code_by (Formulas × (State Key × Counts)) (coded× sheet (coded× (state_code key) counts))
    (λ b. (b.sheet, (b.keys, b.counts)))
    (λ p. record { sheet = p.0; keys = p.1.0; counts = p.1.1 }) (λ _. refl)

-- what a collection leaves: the queries that are needed, and those that are counted, under their
-- names; and how many have gone
pub record IsCleared (old new : Book) (gone : ℕ) : Type 0 where
  pub sheet : new.sheet ≡ old.sheet
  pub counts : new.counts ≡ old.counts
  pub names : List Name
  pub keys : new.keys ≡ kept_named old.keys (has names)
  pub needed : (name : Name) (key : Key) → reads old.keys name ≡ Some key → (has names name ≡ true)
      ↔ (IsNeeded old.sheet old.keys key ⊎ (starts (queries_of old.keys) name ≡ true))
  pub count : gone + map.len new.keys.map ≡ map.len old.keys.map
