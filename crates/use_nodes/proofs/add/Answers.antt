use Rattle.use_nodes.specs.declared.Expr.TheVariants.{outs-Add}
use Rattle.use_nodes.proofs.add.Goals as goal

pub returns-clause-reads : goal.returns-clause-reads
returns-clause-reads c = rw (outs-Add _ _) at c.make.ensures.stands
