use Rattle.types_run.proofs.tests.reference.Reference.+instance.Given as goal

abbrev pub decreases-instance : goal.decreases-instance
decreases-instance g l = l.fuel
