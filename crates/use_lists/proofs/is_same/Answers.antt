use Rattle.ra_ap_intern.proofs.CallerLemmas.{iff_trans}
use Rattle.use_lists.proofs.is_same.Goals as goal

pub returns-clause-names : goal.returns-clause-names
returns-clause-names c =
    rw c.eq.ensures (c.slice_references_are_names.ensures.equal c.args.first c.args.second)

pub returns-clause-lists : goal.returns-clause-lists
returns-clause-lists c v w first second =
    rw c.eq.ensures (iff_trans
    (c.handles_tell_slices.ensures.reference _ c.number-number.ensures.state c.args.first c.args.second v w
    first second)
    (c.equal_lists_are_the_same.ensures v w))
