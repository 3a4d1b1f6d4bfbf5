use Rattle.ra_ap_intern.proofs.CallerLemmas.{interned_itself}
use Rattle.use_lists.specs.Lists.{same_list}
use Rattle.use_lists.proofs.intern.Goals as goal

pub returns-clause-reads : goal.returns-clause-reads
returns-clause-reads c =
    interned_itself same_list c.equal_lists_are_the_same.ensures c.args.lists.now _ _ _
    c.in_ok-list.ensures.name c.in_ok-list.ensures.state
