use Rattle.std.proofs.Common.{◌≡◌, ℕ, ◌<◌, ◌≤◌}
use Rattle.slab.specs.Slab.{get}
use Rattle.intern_index.specs.Swept.{if_marked}
use Rattle.intern_index.proofs.sweep.keep_marked.Given as goal

abbrev pub invariant-loop-place : goal.invariant-loop-place
invariant-loop-place g l = record {
  done : (p : ℕ) → p < l.place → get l.slots p ≡ if_marked (g.M.Keeps.marked l.marks) (get l.initial.slots p);
  rest : (p : ℕ) → l.place ≤ p → get l.slots p ≡ get l.initial.slots p;
}
