use Rattle.std.proofs.Common.{◌+◌, ◌*◌}
use Rattle.types_run.proofs.tests.random.Generator.+generator.Given as goal

abbrev pub decreases-within : goal.decreases-within
decreases-within g l = 2 * l.depth + 1

abbrev pub decreases-two : goal.decreases-two
decreases-two g l = 2 * l.depth + 1

abbrev pub decreases-make : goal.decreases-make
decreases-make g l = 2 * l.depth
