use Rattle.std.proofs.Common.{◌≡◌, map, drop}
use Rattle.ra_ap_intern.specs.Marks.{marks}
use Rattle.ra_ap_intern.specs.Handle.{ref_name}
use Rattle.collection_tests.proofs.readme.TypeGcInternedVisit.visit_with.Given as goal

-- the marks that are left make of the collector what all of them make of the first
abbrev pub invariant-loop-part : goal.invariant-loop-part
invariant-loop-part l =
    marks l.gc (map ref_name (drop l.part-index l.part-items))
    ≡ marks l.fn.gc (map ref_name l.part-items)
