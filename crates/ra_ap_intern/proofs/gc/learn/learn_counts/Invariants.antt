use Rattle.std.proofs.Common.{◌≡◌, ◌++◌}
use Rattle.std.specs.Prelude.{map as list_map}
use Rattle.intern_marks.specs.Learning.{Learns}
use Rattle.ra_ap_intern.specs.Families.{counted_entries}
use Rattle.ra_ap_intern.proofs.gc.learn.learn_counts.Given as goal

-- what was yielded is learnt, and the iterator has the rest
abbrev pub invariant-loop-spot : goal.invariant-loop-spot
invariant-loop-spot g l = record {
  learnt : Learns l.roots (counted_entries l.number (list_map (λ e. (e.0.birth, e.1)) l.yielded)) l.fn.marks l.marks;
  left : list_map (λ e. (e.0.birth, e.1)) l.yielded ++ l.spot-iterator ≡ l.fn.counts;
}
