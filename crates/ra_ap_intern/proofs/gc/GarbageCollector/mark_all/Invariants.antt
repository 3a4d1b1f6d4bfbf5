use Rattle.std.proofs.Common.{◌≡◌, drop}
use Rattle.std.specs.List.{flat_map}
use Rattle.intern_marks.specs.Marks.{marks}
use Rattle.ra_ap_intern.proofs.gc.GarbageCollector.mark_all.Given as goal

-- what is left to visit is marked as all is
abbrev pub invariant-loop-item : goal.invariant-loop-item
invariant-loop-item g l =
    marks l.self (flat_map g.V.GcInternedVisit.children (drop l.item-index l.items))
    ≡ marks l.fn.self (flat_map g.V.GcInternedVisit.children l.items)
