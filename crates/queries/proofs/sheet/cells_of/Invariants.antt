use Rattle.std.proofs.Common.{◌≡◌, ◌-◌, ◌≤◌}
use Rattle.std.specs.List.{flat_map, range_with_len}
use Rattle.queries.specs.Sheet.{column_cells}
use Rattle.queries.proofs.sheet.cells_of.Given as goal

-- the cells left of the column were added
abbrev pub invariant-loop-column : goal.invariant-loop-column
invariant-loop-column l = record {
  cells : l.cells.items
      ≡ flat_map (column_cells l.block.top (l.block.bottom - l.block.top))
      (range_with_len l.block.left (l.column - l.block.left));
  within : l.column - l.block.left ≤ l.block.right - l.block.left;
}
