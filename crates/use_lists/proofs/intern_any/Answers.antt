use Rattle.ra_ap_intern.proofs.CallerLemmas.{interned_equal, sliced_equivalence}
use Rattle.use_lists.proofs.intern_any.Goals as goal

pub returns-clause-reads : goal.returns-clause-reads
returns-clause-reads g c =
    interned_equal _ (sliced_equivalence _ _ g.met.T.Header.Eq.laws g.met.T.SliceType.Eq.laws)
    c.args.lists.now _ _ _ c.in_ok-list.ensures.name c.in_ok-list.ensures.state
