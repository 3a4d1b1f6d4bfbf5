use Rattle.intern_world.proofs.Runs.{joined_run}
use Rattle.intern_world.proofs.laws.runs_one_after_the_other_are_one_run.Goals as goal

pub returns : goal.returns
returns g c w middle end first second run more = joined_run _ w first second w middle end run more
