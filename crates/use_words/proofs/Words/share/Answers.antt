use Rattle.ra_ap_intern.specs.Handle.{name_of}
use Rattle.ra_ap_intern.proofs.CallerLemmas.{counted_up_reads}
use Rattle.use_words.proofs.Words.share.Goals as goal

pub returns-clause-others : goal.returns-clause-others
returns-clause-others c =
    rw (← c.self.view_is, c.in_ok-second.ensures.state) (counted_up_reads c.self.inside.words (name_of c.args.handle.now).birth)
