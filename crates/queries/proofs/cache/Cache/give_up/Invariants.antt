use Rattle.std.proofs.Common.{◌≡◌}
use Rattle.std.specs.Prelude.{All}
use Rattle.queries.specs.Cache.{IsCache}
use Rattle.queries.specs.Path.{IsStuck}
use Rattle.queries.specs.Sheet.{Formulas}
use Rattle.queries.proofs.cache.Cache.give_up.Given as goal

abbrev pub invariant-loop-frame : goal.invariant-loop-frame
invariant-loop-frame l = record {
  keys : l.self.keys ≡ l.fn.self.keys;
  counts : l.self.counts ≡ l.fn.self.counts;
  cache : (sheet : Formulas) → IsCache sheet l.fn.self
      → IsStuck sheet l.fn.self.keys l.fn.through l.fn.top
      → All (IsStuck sheet l.fn.self.keys l.fn.through) l.fn.path.frames.items
      → IsCache sheet l.self;
}
