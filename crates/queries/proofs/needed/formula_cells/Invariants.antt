use Rattle.std.proofs.Common.{take}
use Rattle.queries.proofs.Needs.{HasCells}
use Rattle.queries.proofs.needed.formula_cells.Given as goal

-- the cells of the places that were passed
abbrev pub invariant-loop-place : goal.invariant-loop-place
invariant-loop-place l = HasCells (take l.place-index l.place-items) l.cells.keys
