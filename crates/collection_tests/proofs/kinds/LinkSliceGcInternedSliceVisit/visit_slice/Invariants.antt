use Rattle.std.proofs.Common.{◌≡◌, map, drop}
use Rattle.ra_ap_intern.specs.Marks.{marks}
use Rattle.ra_ap_intern.specs.Handle.{ref_name}
use Rattle.collection_tests.proofs.kinds.LinkSliceGcInternedSliceVisit.visit_slice.Given as goal

-- the marks that are left make of the collector what all of them make of the first
abbrev pub invariant-loop-link : goal.invariant-loop-link
invariant-loop-link l =
    marks l.gc (map ref_name (drop l.link-index l.slice))
    ≡ marks l.fn.gc (map ref_name l.slice)
