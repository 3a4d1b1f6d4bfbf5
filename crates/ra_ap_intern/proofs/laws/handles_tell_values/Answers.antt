use Rattle.ra_ap_intern.specs.Handle.{handle_of, name_of, ref_name}
use Rattle.ra_ap_intern.proofs.CallerInterning.{iff_trans}
use Rattle.ra_ap_intern.proofs.laws.handles_tell_values.Goals as goal

pub returns-clause-owned : goal.returns-clause-owned
returns-clause-owned g c s ok a b v w first second =
    iff_trans (c.handles_are_names.ensures.owned a b)
    (c.names_tell_values.ensures s ok (name_of a) (name_of b) v w first second)

pub returns-clause-reference : goal.returns-clause-reference
returns-clause-reference g c s ok a b v w first second =
    iff_trans (c.handles_are_names.ensures.reference a b)
    (c.names_tell_values.ensures s ok (ref_name a) (ref_name b) v w first second)

pub returns-clause-owed : goal.returns-clause-owed
returns-clause-owed g c s ok a b v w first second =
    iff_trans (c.handles_are_names.ensures.owed a b)
    (c.names_tell_values.ensures s ok (name_of (handle_of a)) (name_of (handle_of b)) v w first second)
