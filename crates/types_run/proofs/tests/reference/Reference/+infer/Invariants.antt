use Rattle.std.proofs.Common.{◌+◌, ◌*◌}
use Rattle.types_run.proofs.tests.reference.Reference.+infer.Given as goal

abbrev pub decreases-two : goal.decreases-two
decreases-two g l = 2 * l.fuel + 1

abbrev pub decreases-within : goal.decreases-within
decreases-within g l = 2 * l.fuel + 1

abbrev pub decreases-infer : goal.decreases-infer
decreases-infer g l = 2 * l.fuel
