use Rattle.types_run.proofs.tests.reference.Reference.+unify.Given as goal

abbrev pub decreases-unify : goal.decreases-unify
decreases-unify g l = l.fuel
