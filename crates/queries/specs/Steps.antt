-- How many steps an evaluation has left at most.
use Rattle.std.specs.Prelude.{◌≡◌, ℕ, ◌+◌, ◌-◌, ◌≤◌, ◌==◌, ◌&&◌, ◌||◌, Bool, true, false, List, [], ◌∷◌, ◌++◌, length, Option, None, Some, is_some, if◌then◌else◌}
use Rattle.std.specs.List.{flat_map, list_any}
use Rattle.ra_ap_intern.specs.Handle.{ref_name}
use Rattle.ra_ap_intern.specs.Name.{Name}
use Rattle.ra_ap_intern.specs.Named.{same_name}
use Rattle.ra_ap_intern.specs.State.{name_of_value}
use Rattle.queries.specs.declared.cache.Cache.{Cache}
use Rattle.queries.specs.declared.key.Function.{Function}
use Rattle.queries.specs.declared.key.Function.TheVariants as function
use Rattle.queries.specs.declared.key.Key.{Key}
use Rattle.queries.specs.declared.key.Key.TheVariants.{Cell, Total}
use Rattle.queries.specs.declared.path.Frame.{Frame}
use Rattle.queries.specs.declared.place.Block.{Block}
use Rattle.queries.specs.declared.value.Answer.{Answer}
use Rattle.queries.specs.Cache.{memo_at, current_answer}
use Rattle.queries.specs.Sheet.{Formulas, block_cells, reads_of, same_place}

-- the number of a function
abbrev pub function_number : Function → ℕ
function_number function.Sum = 0
function_number function.Min = 1
function_number function.Max = 2
function_number function.Count = 3

abbrev pub same_block : Block → Block → Bool
same_block b c =
    ((b.left == c.left) && (b.right == c.right)) && ((b.top == c.top) && (b.bottom == c.bottom))

-- whether two queries are one
abbrev pub same_key : Key → Key → Bool
same_key (Cell p) (Cell q) = same_place p q
same_key (Cell p) (Total g c) = false
same_key (Total f b) (Cell q) = false
same_key (Total f b) (Total g c) = (function_number f == function_number g) && same_block b c

-- the cells that a function reads
abbrev pub cells_in : Key → List Key
cells_in (Cell place) = []
cells_in (Total function block) = block_cells block

-- what the formulas of a sheet read
abbrev pub read_by : Formulas → List Key
read_by sheet = flat_map (λ e. e.1.reads) sheet

-- the queries to which reads can lead from one
abbrev pub reachable : Formulas → Key → List Key
reachable sheet root =
    root ∷ (cells_in root ++ (read_by sheet ++ flat_map cells_in (read_by sheet)))

-- whether a query of this name is answered, or one of these
abbrev pub is_begun : Cache → List Frame → Option Name → Bool
is_begun cache frames None = false
is_begun cache frames (Some name) =
    is_some (current_answer (memo_at cache name) cache.revision)
    || list_any (λ f. same_name name (ref_name f.handle)) frames

-- the steps of queries that aren't begun: to begin each, to read each value, and to end
abbrev pub steps_ahead : Formulas → Cache → List Frame → List Key → ℕ
steps_ahead sheet cache frames [] = 0
steps_ahead sheet cache frames (k ∷ ks) =
    (if is_begun cache frames (name_of_value same_key cache.keys k) then 0
    else length (reads_of sheet k) + 2) + steps_ahead sheet cache frames ks

-- the steps of queries that are begun: to read the other values, and to end
abbrev pub steps_within : List Frame → ℕ
steps_within [] = 0
steps_within (f ∷ fs) = (length f.wants.items - length f.values.items + 1) + steps_within fs

abbrev pub steps_left : Formulas → Key → Cache → List Frame → ℕ
steps_left sheet root cache frames =
    steps_ahead sheet cache frames (reachable sheet root) + steps_within frames

-- what is begun stays begun
abbrev pub KeepsBegun : Cache → List Frame → Cache → List Frame → Type 0
KeepsBegun old olds new news = (key : Key)
    → is_begun old olds (name_of_value same_key old.keys key) ≡ true
    → is_begun new news (name_of_value same_key new.keys key) ≡ true

-- a query of this name is answered, and no other's memo has changed
pub record IsSettled (old : Cache) (name : Name) (new : Cache) : Type 0 where
  pub keys : new.keys ≡ old.keys
  pub revision : new.revision ≡ old.revision
  pub current : is_some (current_answer (memo_at new name) new.revision) ≡ true
  pub others : (other : Name) → same_name name other ≡ false → memo_at new other ≡ memo_at old other

-- an evaluation without an answer goes on with fewer steps than so many
abbrev pub IsNearer : Formulas → Key → Cache → List Frame → ℕ → Option Answer → Type 0
IsNearer sheet root cache frames n None = steps_left sheet root cache frames + 1 ≤ n
IsNearer sheet root cache frames n (Some answer) = Unit {0}
