use Rattle.use_nodes.specs.declared.Expr.TheVariants.{outs-Number}
use Rattle.use_nodes.proofs.number.Goals as goal

pub returns-clause-reads : goal.returns-clause-reads
returns-clause-reads c = rw (outs-Number _) at c.make.ensures.stands
