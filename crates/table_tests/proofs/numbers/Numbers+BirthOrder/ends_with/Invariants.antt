use Rattle.std.proofs.Common.{◌≡◌}
use Rattle.intern_index.specs.IndexEntry.{spot_before}
use Rattle.table_tests.proofs.numbers.Numbers+BirthOrder.ends_with.Given as goal

abbrev pub invariant-loop-at : goal.invariant-loop-at
invariant-loop-at g l = l.last ≡ spot_before l.self.index.entries l.at
