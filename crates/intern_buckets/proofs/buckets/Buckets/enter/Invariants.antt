use Rattle.std.proofs.Common.{◌≡◌, ◌≤◌}
use Rattle.intern_buckets.specs.Probing.{home}
use Rattle.intern_buckets.proofs.Probing.{IsFull}
use Rattle.intern_buckets.proofs.buckets.Buckets.enter.Given as goal

-- nothing is changed so far, and no bucket from the home on is empty
abbrev pub invariant-loop-at : goal.invariant-loop-at
invariant-loop-at l = record {
  same : l.self ≡ l.fn.self;
  behind : home l.self.homes l.fn.hash ≤ l.at;
  full : IsFull l.self.buckets.items (home l.self.homes l.fn.hash) l.at;
}
