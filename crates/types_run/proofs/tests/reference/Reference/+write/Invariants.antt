use Rattle.std.proofs.Common.{◌+◌, ◌*◌}
use Rattle.types_run.proofs.tests.reference.Reference.+write.Given as goal

abbrev pub decreases-write_part : goal.decreases-write_part
decreases-write_part g l = 2 * l.fuel

abbrev pub decreases-write_parts : goal.decreases-write_parts
decreases-write_parts g l = 2 * l.fuel + 1
