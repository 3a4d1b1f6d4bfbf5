use Rattle.std.proofs.Common.{◌≡◌, ◌-◌, ◌≤◌, ◌++◌}
use Rattle.queries.specs.Sheet.{column_cells}
use Rattle.queries.proofs.sheet.push_column.Given as goal

-- the cells above the row were added
abbrev pub invariant-loop-row : goal.invariant-loop-row
invariant-loop-row l = record {
  cells : l.cells.items ≡ l.fn.cells.items ++ column_cells l.top (l.row - l.top) l.column;
  within : l.row - l.top ≤ l.bottom - l.top;
}
