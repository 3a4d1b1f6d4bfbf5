use Rattle.ra_ap_intern.proofs.CallerLemmas.{tree_on, tree_kept}
use Rattle.types.proofs.laws.trees_stay.Goals as goal

pub returns-clause-read : goal.returns-clause-read
returns-clause-read c s later on n t = tree_on _ _ s later on t n

pub returns-clause-collected : goal.returns-clause-collected
returns-clause-collected c s begins names is n t = tree_kept _ _ begins s names is t n
