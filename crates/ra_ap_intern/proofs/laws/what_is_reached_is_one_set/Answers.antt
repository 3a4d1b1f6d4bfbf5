use Rattle.ra_ap_intern.proofs.Collections.{one_set}
use Rattle.ra_ap_intern.proofs.laws.what_is_reached_is_one_set.Goals as goal

pub returns : goal.returns
returns c = one_set
