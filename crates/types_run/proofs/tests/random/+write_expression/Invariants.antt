use Rattle.std.proofs.Common.{◌+◌, ◌*◌}
use Rattle.types_run.proofs.tests.random.+write_expression.Given as goal

abbrev pub decreases-write_expression : goal.decreases-write_expression
decreases-write_expression g l = 3 * l.fuel

abbrev pub decreases-write_parts : goal.decreases-write_parts
decreases-write_parts g l = 3 * l.fuel + 2

abbrev pub decreases-write_two : goal.decreases-write_two
decreases-write_two g l = 3 * l.fuel + 1
