use Rattle.std.proofs.Common.{vec_len}
use Rattle.queries.proofs.parser.Parser.unwind.Given as goal

abbrev pub invariant-loop-step : goal.invariant-loop-step
invariant-loop-step l = Unit {0}

abbrev pub decreases-loop-step : goal.decreases-loop-step
decreases-loop-step l = vec_len l.self.waiting
