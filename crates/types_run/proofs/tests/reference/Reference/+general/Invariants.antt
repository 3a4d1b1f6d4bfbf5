use Rattle.types_run.proofs.tests.reference.Reference.+general.Given as goal

abbrev pub decreases-general : goal.decreases-general
decreases-general g l = l.fuel
