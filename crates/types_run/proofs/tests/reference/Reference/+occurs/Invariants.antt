use Rattle.types_run.proofs.tests.reference.Reference.+occurs.Given as goal

abbrev pub decreases-occurs : goal.decreases-occurs
decreases-occurs l = l.fuel
