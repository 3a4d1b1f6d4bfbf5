use Rattle.ra_ap_intern.proofs.CallerLemmas.{iff_trans, names_tell_views}
use Rattle.use_types.proofs.handles_tell_types.Goals as goal

pub returns : goal.returns
returns c s ok a b x y first second =
    iff_trans (c.references_are_names.ensures.equal a b)
    (names_tell_views _ _ c.types_are_their_shapes.ensures s ok _ _ x y first second)
