use Rattle.std.proofs.Common.{[], ◌∷◌, map}
use Rattle.ra_ap_intern.specs.Handle.{ref_name}
use Rattle.ra_ap_intern.specs.Walks.{IsWalk, turns_left}
use Rattle.use_types.specs.Types.{declared_by}
use Rattle.use_walks.proofs.parts.Given as goal

abbrev pub invariant-loop-next : goal.invariant-loop-next
invariant-loop-next l =
    IsWalk declared_by l.types (ref_name l.fn.whole ∷ []) (map ref_name l.ahead.items)
    (map ref_name l.met.keys)

abbrev pub decreases-loop-next : goal.decreases-loop-next
decreases-loop-next l =
    turns_left declared_by l.types (map ref_name l.ahead.items) (map ref_name l.met.keys)
