use Rattle.std.proofs.Common.{false}
use Rattle.ra_ap_intern.specs.Handle.{name_of}
use Rattle.ra_ap_intern.proofs.CallerLemmas.{released_reads}
use Rattle.use_words.proofs.Words.release.Goals as goal

pub returns-clause-others : goal.returns-clause-others
returns-clause-others c =
    rw (← c.self.view_is, c.in_ok-freed.ensures.state) (released_reads false c.self.inside.words (name_of c.args.handle).birth)
