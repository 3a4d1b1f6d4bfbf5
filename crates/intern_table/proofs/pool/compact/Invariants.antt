use Rattle.std.proofs.Common.{◌≡◌}
use Rattle.intern_index.specs.IndexEntry.{spot_before}
use Rattle.intern_table.proofs.Moves.{IsMoved}
use Rattle.intern_table.proofs.pool.compact.Given as goal

abbrev pub invariant-loop-at : goal.invariant-loop-at
invariant-loop-at g l = record {
  moved : IsMoved g.A.NearItems.near_of l.fn.index.entries l.fn.items.items l.index.entries l.items.items l.at l.end;
  last : l.last ≡ spot_before l.fn.index.entries l.at;
  buckets : l.index.buckets ≡ l.fn.index.buckets;
}
