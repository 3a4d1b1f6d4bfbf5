use Rattle.ra_ap_intern.proofs.CallerLemmas.{tree_interned, tree_kept}
use Rattle.use_trees.proofs.trees_stay.Goals as goal

pub returns-clause-made : goal.returns-clause-made
returns-clause-made c s ok v n t = tree_interned _ _ _ s ok v t n

pub returns-clause-collected : goal.returns-clause-collected
returns-clause-collected c s begins names is n t = tree_kept _ _ begins s names is t n
