use Rattle.std.proofs.Common.{◌≡◌, ◌++◌}
use Rattle.std.specs.List.{flat_map}
use Rattle.intern_marks.specs.Marks.{marks}
use Rattle.ra_ap_intern.specs.Visitors.{of_map}
use Rattle.ra_ap_intern.proofs.gc.visitors.HashMapGcInternedVisit.visit_with.Given as goal

-- what is left to visit is marked as all is
abbrev pub invariant-loop-key : goal.invariant-loop-key
invariant-loop-key g l =
    marks l.gc (flat_map (λ e. g.K.GcInternedVisit.children e.0 ++ g.V.GcInternedVisit.children e.1) l.key-iterator)
    ≡ marks l.fn.gc (of_map g.K.GcInternedVisit.children g.V.GcInternedVisit.children l.fn.self)
