use Rattle.std.proofs.Common.{drop}
use Rattle.intern_buckets.proofs.Searching.{IsPassed, IsClear}
use Rattle.intern_buckets.proofs.probe.search.Given as goal

-- each place that passes is met among the buckets that are left, and those before them aren't empty
abbrev pub invariant-loop-bucket : goal.invariant-loop-bucket
invariant-loop-bucket g l = record {
  passed : IsPassed (g.Q.Test.passes l.fn.test) l.fn.hash l.fn.table (drop l.bucket-index l.initial.bucket-items);
  clear : IsClear l.initial.bucket-items l.bucket-index;
}
