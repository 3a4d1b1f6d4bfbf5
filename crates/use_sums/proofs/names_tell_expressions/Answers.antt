use Rattle.ra_ap_intern.proofs.CallerLemmas.{iff_trans, interned_twice, viewed_equivalence}
use Rattle.use_nodes.specs.Parts.{parts_in}
use Rattle.use_sums.proofs.names_tell_expressions.Goals as goal

pub returns : goal.returns
returns c s ok v w =
    let alike = c.expressions_are_their_parts.ensures in
    iff_trans (interned_twice _ (viewed_equivalence _ parts_in alike) s ok v w) (alike v w)
