use Rattle.ra_ap_intern.proofs.CallerLemmas.{interned_equal}
use Rattle.use_lookups.proofs.find_or_intern.Goals as goal

pub returns-clause-reads : goal.returns-clause-reads
returns-clause-reads g c =
    interned_equal g.T.PartialEq.eq g.met.T.Eq.laws c.args.storage.now _ _ _
    c.in_ok-reference.ensures.name c.in_ok-reference.ensures.state
