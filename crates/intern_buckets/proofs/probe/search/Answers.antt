use Rattle.std.proofs.Common.{drop, sym, ◌∙◌}
use Rattle.intern_buckets.proofs.Searching.{passed_all, passed_step, clear_step, none_left, nothing_met, nothing_left}
use Rattle.intern_buckets.proofs.probe.search.Goals as goal

pub loop-bucket-init : goal.loop-bucket-init
loop-bucket-init g c = record {
  passed = passed_all (g.Q.Test.passes c.args.test.now) c.args.hash c.args.table.now _ c.probe-bucket-items.ensures;
  clear = λ b met. met;
}

pub loop-bucket-preserved : goal.loop-bucket-preserved
loop-bucket-preserved g c = record {
  passed = passed_step (g.Q.Test.passes c.args.test.now) c.args.hash c.args.table.now _ _ c.loop-bucket.invariant.passed c.loop-bucket-test.true c.in_default.ensures.none;
  clear = clear_step _ _ c.loop-bucket-test.true (sym c.is_empty.ensures ∙ c.if-is_empty.false) c.loop-bucket.invariant.clear;
}

pub returns-then-is_empty-clause-none : goal.returns-then-is_empty-clause-none
returns-then-is_empty-clause-none g c =
    none_left (g.Q.Test.passes c.args.test.now) c.args.hash c.args.table.now (drop c.loop-bucket.bucket-index c.probe-bucket-items.result.now) c.loop-bucket.invariant.passed (nothing_met _ _ c.loop-bucket-test.true (sym c.is_empty.ensures ∙ c.if-is_empty.true))

pub returns-clause-none : goal.returns-clause-none
returns-clause-none g c = none_left (g.Q.Test.passes c.args.test.now) c.args.hash c.args.table.now (drop c.loop-bucket.bucket-index c.probe-bucket-items.result.now) c.loop-bucket.invariant.passed (nothing_left _ _ c.loop-bucket-test.false)
