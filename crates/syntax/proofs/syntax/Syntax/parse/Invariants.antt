use Rattle.std.proofs.Common.{drop}
use Rattle.syntax.specs.Lexeme.{lexemes}
use Rattle.syntax.specs.Parsing.{Keeps}
use Rattle.syntax.proofs.Parsed.{RunsOn}
use Rattle.syntax.proofs.syntax.Syntax.parse.Given as goal

-- the tokens that are left make of what was read what all of them make of nothing
abbrev pub invariant-loop-placed : goal.invariant-loop-placed
invariant-loop-placed l = record {
  runs : RunsOn l.self.terms l.machine (lexemes l.tokens) (drop l.placed-index l.tokens);
  keeps : Keeps l.fn.self.terms l.self.terms;
}
