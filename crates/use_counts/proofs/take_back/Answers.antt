use Rattle.ra_ap_intern.specs.Handle.{ref_name}
use Rattle.ra_ap_intern.proofs.CallerLemmas.{counted_down_reads}
use Rattle.use_counts.proofs.take_back.Goals as goal

pub returns-clause-reads : goal.returns-clause-reads
returns-clause-reads c =
    rw c.in_ok-decrement_refcount.ensures.state (counted_down_reads c.args.words.now (ref_name c.args.word).birth)
