use Rattle.intern_terms.specs.Tree.{no_more}
use Rattle.syntax.proofs.syntax.Syntax.begin_atom.Goals as goal

pub returns-clause-value : goal.returns-clause-value
returns-clause-value c = c.in_ok-value.ensures.tree no_more tt
