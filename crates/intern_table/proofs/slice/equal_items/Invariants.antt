use Rattle.std.proofs.Common.{◌≡◌, drop}
use Rattle.std.specs.Cmp.Lexicographic.{pointwise}
use Rattle.intern_table.proofs.slice.equal_items.Given as goal

-- what is behind decides
abbrev pub invariant-loop-at : goal.invariant-loop-at
invariant-loop-at g l = pointwise g.S.PartialEq.eq (drop l.at l.first) (drop l.at l.second) ≡ pointwise g.S.PartialEq.eq l.first l.second
