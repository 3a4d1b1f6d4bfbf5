use Rattle.std.proofs.Common.{sym}
use Rattle.ra_ap_intern.proofs.CallerLemmas.{reads_itself}
use Rattle.use_lists.specs.Lists.{same_list}
use Rattle.use_lists.proofs.find.Goals as goal

pub returns-clause-reads : goal.returns-clause-reads
returns-clause-reads c =
    reads_itself same_list c.equal_lists_are_the_same.ensures c.args.lists.now _ _ (sym c.in_ok-list.ensures)
