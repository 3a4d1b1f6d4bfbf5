use Rattle.std.proofs.Common.{◌≡◌, ◌≤◌, ◌++◌, length, reverse, drop}
use Rattle.syntax.specs.Changes.{olds_of, news_of}
use Rattle.syntax.proofs.change.push_parts.Given as goal

-- the parts from here on are on the stack
abbrev pub invariant-loop-left : goal.invariant-loop-left
invariant-loop-left l = record {
  olds : olds_of (reverse l.pairs.items)
      ≡ drop l.left l.olds ++ olds_of (reverse l.fn.pairs.items);
  news : news_of (reverse l.pairs.items)
      ≡ drop l.left l.news ++ news_of (reverse l.fn.pairs.items);
  within : l.left ≤ length l.olds;
}

abbrev pub decreases-loop-left : goal.decreases-loop-left
decreases-loop-left l = l.left
