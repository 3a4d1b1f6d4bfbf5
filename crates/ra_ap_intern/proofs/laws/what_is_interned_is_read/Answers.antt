use Rattle.ra_ap_intern.proofs.CallerLemmas.{interned_reads}
use Rattle.ra_ap_intern.proofs.laws.what_is_interned_is_read.Goals as goal

pub returns : goal.returns
returns g c = interned_reads g.T.PartialEq.eq g.met.T.Eq.laws
