use Rattle.std.proofs.Common.{◌≡◌, ◌-◌, ◌++◌, ap, ◌∙◌, arith}
use Rattle.queries.specs.Sheet.{column_cells}
use Rattle.queries.proofs.Blocks.{column_more}
use Rattle.queries.proofs.sheet.push_column.Goals as goal

pub loop-row-preserved : goal.loop-row-preserved
loop-row-preserved c = record {
  cells = c.in_ok-push.ensures.items
      ∙ column_more _ _ c.args.top c.loop-row.row c.args.column c.loop-row.auto.row
      c.loop-row.invariant.cells;
  within = omega arith;
}

pub returns : goal.returns
returns c =
    let within = c.loop-row.invariant.within in
    let count : c.loop-row.row - c.args.top ≡ c.args.bottom - c.args.top = omega arith in
    c.loop-row.invariant.cells
    ∙ ap (λ n. c.args.cells.now.items ++ column_cells c.args.top n c.args.column) count
