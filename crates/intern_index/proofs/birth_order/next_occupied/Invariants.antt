use Rattle.std.proofs.Common.{◌≡◌, ℕ, ◌<◌, ◌≤◌, None}
use Rattle.slab.specs.Slab.{get}
use Rattle.intern_index.proofs.birth_order.next_occupied.Given as goal

-- no place before has an entry
abbrev pub invariant-loop-place : goal.invariant-loop-place
invariant-loop-place g l = (q : ℕ) → l.from ≤ q → q < l.place → get l.slots q ≡ None
