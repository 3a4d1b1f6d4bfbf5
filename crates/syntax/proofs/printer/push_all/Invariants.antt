use Rattle.std.proofs.Common.{◌≡◌, ◌++◌, length, reverse}
use Rattle.syntax.proofs.printer.push_all.Given as goal

-- what is left and what was put on the stack are all there was
abbrev pub invariant-loop-piece : goal.invariant-loop-piece
invariant-loop-piece l = l.layout.items ++ reverse l.pieces.items
    ≡ l.fn.layout.items ++ reverse l.fn.pieces.items

abbrev pub decreases-loop-piece : goal.decreases-loop-piece
decreases-loop-piece l = length l.layout.items
