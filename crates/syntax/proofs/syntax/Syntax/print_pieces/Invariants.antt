use Rattle.std.proofs.Common.{List}
use Rattle.syntax.specs.Lexeme.{Lexeme}
use Rattle.syntax.specs.Pieces.{Spell, Prints}
use Rattle.syntax.proofs.syntax.Syntax.print_pieces.Given as goal

-- what was printed and what is on the stack spell what the layout spells
abbrev pub invariant-loop : goal.invariant-loop
invariant-loop l = (spelled : List Lexeme) → Spell l.self.terms l.fn.layout.items spelled
    → Prints l.self.terms l.counter l.tokens.items l.pieces.items spelled
