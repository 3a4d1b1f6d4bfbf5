use Rattle.intern_terms.proofs.Walks.{order_has_arguments}
use Rattle.intern_terms.proofs.laws.a_walk_has_each_argument.Goals as goal

pub returns : goal.returns
returns c s names order n a v = order_has_arguments s names order n a v
