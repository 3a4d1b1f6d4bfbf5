use Rattle.ra_ap_intern.proofs.CallerLemmas.{iff_trans, names_tell_trees, parts_alike}
use Rattle.use_trees.proofs.handles_tell_trees.Goals as goal

pub returns : goal.returns
returns c s ok a b t u first second =
    iff_trans (c.references_are_names.ensures.equal a b)
    (names_tell_trees _ _ _ (parts_alike _ _ c.types_are_their_shapes.ensures) s ok _ _ t u first second)
