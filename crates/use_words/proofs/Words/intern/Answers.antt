use Rattle.std.proofs.lemmas.Slice.Eq.{bytes_eq-Decides}
use Rattle.std.specs.Str.{bytes_eq}
use Rattle.ra_ap_intern.proofs.CallerLemmas.{interned_counted_itself, interned_counted_reads_on}
use Rattle.use_words.proofs.Words.intern.Goals as goal

pub returns-clause-reads : goal.returns-clause-reads
returns-clause-reads c =
    interned_counted_itself bytes_eq bytes_eq-Decides c.self.inside.words _ _ _
    c.in_ok-handle.ensures.name c.in_ok-handle.ensures.state

pub returns-clause-others : goal.returns-clause-others
returns-clause-others c =
    rw (← c.self.view_is, c.in_ok-handle.ensures.state)
    (interned_counted_reads_on bytes_eq c.self.inside.words c.number-number.ensures.state c.args.word)
