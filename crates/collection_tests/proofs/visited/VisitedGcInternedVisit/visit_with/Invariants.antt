use Rattle.std.proofs.Common.{◌≡◌, map, drop}
use Rattle.ra_ap_intern.specs.Marks.{marks}
use Rattle.ra_ap_intern.specs.Handle.{ref_name}
use Rattle.collection_tests.proofs.visited.VisitedGcInternedVisit.visit_with.Given as goal

-- the marks that are left make of the collector what all of them make of the first
abbrev pub invariant-loop-child : goal.invariant-loop-child
invariant-loop-child l =
    marks l.gc (map ref_name (drop l.child-index l.child-items))
    ≡ marks l.fn.gc (map ref_name l.child-items)
