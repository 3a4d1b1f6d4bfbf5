use Rattle.std.proofs.Common.{◌≡◌, map, drop}
use Rattle.ra_ap_intern.specs.Marks.{marks}
use Rattle.ra_ap_intern.specs.Handle.{ref_name}
use Rattle.intern_bench.proofs.keepers.BareGcInternedSliceVisit.visit_slice.Given as goal

-- the marks that are left make of the collector what all of them make of the first
abbrev pub invariant-loop-item : goal.invariant-loop-item
invariant-loop-item l =
    marks l.gc (map (λ item. ref_name item.slice) (drop l.item-index l.slice))
    ≡ marks l.fn.gc (map (λ item. ref_name item.slice) l.slice)
