use Rattle.ra_ap_intern.proofs.CallerLemmas.{added_reads}
use Rattle.use_names.proofs.keywords.Goals as goal

pub returns : goal.returns
returns c =
    let adds = rw c.new-symbols.ensures.items at c.in_ok-extend.ensures.ok in
    added_reads c.args.names.now _ _ _ c.number-number.ensures.state adds
