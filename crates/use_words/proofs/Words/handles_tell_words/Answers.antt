use Rattle.std.proofs.lemmas.Slice.Eq.{bytes_eq-Decides}
use Rattle.ra_ap_intern.proofs.CallerLemmas.{iff_trans}
use Rattle.use_words.proofs.Words.handles_tell_words.Goals as goal

pub returns : goal.returns
returns c = rw (← c.self.view_is) (λ a b v w first second.
    iff_trans
    (c.handles_tell_values.ensures.owned _ c.number-number.ensures.state a b v w first second)
    (bytes_eq-Decides v w))
