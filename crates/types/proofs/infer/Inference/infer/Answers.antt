use Rattle.types.proofs.Environments.{declared_grown}
use Rattle.types.proofs.infer.Inference.infer.Goals as goal

pub returns-in-Ok-clause-trees : goal.returns-in-Ok-clause-trees
returns-in-Ok-clause-trees c name t =
    declared_grown c.args.self.now.environment c.run.new.self.environment name t c.run.ensures

pub returns-in-Err-clause-trees : goal.returns-in-Err-clause-trees
returns-in-Err-clause-trees c name t d =
    declared_grown c.run.new.self.environment c.told.new.self.environment name t c.told.ensures
    (declared_grown c.args.self.now.environment c.run.new.self.environment name t c.run.ensures d)
