use Rattle.std.proofs.Common.{◌≡◌, ◌++◌, take}
use Rattle.syntax.specs.Pieces.{comma_pieces}
use Rattle.syntax.proofs.printer.push_arguments.Given as goal

-- the arguments so far were put behind commas
abbrev pub invariant-loop-term : goal.invariant-loop-term
invariant-loop-term l =
    l.pieces.items ≡ l.fn.pieces.items ++ comma_pieces (take l.term-index l.others)
