-- Sheets, and what queries over them read and give.
use Rattle.std.specs.Prelude.{ℕ, ◌-◌, ◌==◌, Bool, ◌&&◌, List, [], map, Option, None, Some}
use Rattle.std.specs.List.{flat_map, range_with_len}
use Rattle.std.specs.Map.{lookup}
use Rattle.std.specs.Ordering.{nat_cmp, ordering_then}
use Rattle.std.specs.declared.cmp.Ordering.{Ordering}
use Rattle.queries.specs.declared.key.Key.{Key}
use Rattle.queries.specs.declared.key.Key.TheVariants.{Cell, Total}
use Rattle.queries.specs.declared.place.Block.{Block}
use Rattle.queries.specs.declared.place.Place.{Place}
use Rattle.queries.specs.declared.value.Value.{Value}
use Rattle.queries.specs.declared.value.Value.TheVariants.{Empty}
use Rattle.queries.specs.Formula.{Postfix, formula_of}
use Rattle.queries.specs.Value.{value_of, total_of}

-- a finite map from cells to formulas, as its entries
abbrev pub Formulas : Type 0
Formulas = List (Place × Postfix)

abbrev pub same_place : Place → Place → Bool
same_place p q = (p.column == q.column) && (p.row == q.row)

-- the order of places: by their columns, and in one column by their rows
abbrev pub place_order : Place → Place → Ordering
place_order p q = ordering_then (nat_cmp p.column q.column) (nat_cmp p.row q.row)

-- the formula of a cell
abbrev pub formula_at : Formulas → Place → Option Postfix
formula_at sheet place = lookup (same_place place) sheet

-- the cells of a block, column by column
abbrev pub column_cells : ℕ → ℕ → ℕ → List Key
column_cells top rows column = map (λ row. Cell (record { column = column; row = row })) (range_with_len top rows)

abbrev pub block_cells : Block → List Key
block_cells b =
    flat_map (column_cells b.top (b.bottom - b.top)) (range_with_len b.left (b.right - b.left))

-- what a query reads: a cell what its formula reads, and a function the cells of its block
abbrev pub formula_reads : Option Postfix → List Key
formula_reads None = []
formula_reads (Some formula) = formula.reads

abbrev pub reads_of : Formulas → Key → List Key
reads_of sheet (Cell place) = formula_reads (formula_at sheet place)
reads_of sheet (Total function block) = block_cells block

-- what a query gives, from the values that it reads
abbrev pub cell_value : Option Postfix → List Value → Value
cell_value None values = Empty
cell_value (Some formula) values = formula_of formula.steps values

abbrev pub gives : Formulas → Key → List Value → Value
gives sheet (Cell place) values = cell_value (formula_at sheet place) values
gives sheet (Total function block) values = value_of (total_of function values)
