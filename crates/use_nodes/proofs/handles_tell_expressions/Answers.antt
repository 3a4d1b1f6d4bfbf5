use Rattle.ra_ap_intern.proofs.CallerLemmas.{iff_trans, names_tell_views}
use Rattle.use_nodes.specs.Parts.{parts_in}
use Rattle.use_nodes.proofs.handles_tell_expressions.Goals as goal

pub returns : goal.returns
returns c a b x y first second =
    iff_trans (c.references_are_names.ensures.equal a b)
    (names_tell_views _ parts_in c.expressions_are_their_parts.ensures _ c.number-number.ensures.state
    _ _ x y first second)
