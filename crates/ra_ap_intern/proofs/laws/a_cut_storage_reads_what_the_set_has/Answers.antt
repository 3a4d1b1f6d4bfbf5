use Rattle.ra_ap_intern.proofs.CallerLemmas.{reads-kept_named, counts-kept_named}
use Rattle.ra_ap_intern.proofs.laws.a_cut_storage_reads_what_the_set_has.Goals as goal

pub returns-clause-reads : goal.returns-clause-reads
returns-clause-reads g c = reads-kept_named

pub returns-clause-counts : goal.returns-clause-counts
returns-clause-counts g c = counts-kept_named
