use Rattle.std.proofs.Common.{map, take}
use Rattle.ra_ap_intern.specs.Handle.{ref_name}
use Rattle.queries.proofs.Needs.{HasNames}
use Rattle.queries.proofs.needed.needed_handles.Given as goal

-- the names of the queries that were passed
abbrev pub invariant-loop-key : goal.invariant-loop-key
invariant-loop-key l = HasNames l.keys (take l.key-index l.key-items) (map ref_name l.handles.items)
