use Rattle.queries.proofs.Trees.{formula_tree}
use Rattle.queries.proofs.formula.a_formula_comes_to_what_its_tree_does.Goals as goal

pub returns : goal.returns
returns c tree values = formula_tree values tree
