use Rattle.std.proofs.Common.{◌≡◌, ◌-◌, ap, ◌∙◌, arith}
use Rattle.std.specs.List.{flat_map, range_with_len}
use Rattle.queries.specs.Sheet.{column_cells}
use Rattle.queries.proofs.Blocks.{block_more}
use Rattle.queries.proofs.sheet.cells_of.Goals as goal

pub loop-column-preserved : goal.loop-column-preserved
loop-column-preserved c =
    let b = c.args.block in record {
      cells = c.in_ok-push_column.ensures
          ∙ block_more _ (column_cells b.top (b.bottom - b.top)) b.left c.loop-column.column
          c.loop-column.auto.column c.loop-column.invariant.cells;
      within = omega arith;
    }

pub returns : goal.returns
returns c =
    let b = c.args.block in
    let within = c.loop-column.invariant.within in
    let count : c.loop-column.column - b.left ≡ b.right - b.left = omega arith in
    c.loop-column.invariant.cells
    ∙ ap (λ n. flat_map (column_cells b.top (b.bottom - b.top)) (range_with_len b.left n)) count
