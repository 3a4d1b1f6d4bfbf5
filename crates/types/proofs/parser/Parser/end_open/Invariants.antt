use Rattle.std.proofs.Common.{vec_len}
use Rattle.types.proofs.parser.Parser.end_open.Given as goal

abbrev pub decreases-loop-step : goal.decreases-loop-step
decreases-loop-step l = vec_len l.self.begun
