use Rattle.std.proofs.Common.{◌-◌, ◌^◌}
use Rattle.queries.proofs.Needs.{IsReading}
use Rattle.queries.proofs.needed.needed_keys.Given as goal

-- what the keys before the index read is there too
abbrev pub invariant-loop-index : goal.invariant-loop-index
invariant-loop-index l = IsReading l.sheet l.keys l.index l.needed.keys

abbrev pub decreases-loop-index : goal.decreases-loop-index
decreases-loop-index l = 2 ^ 64 - l.index
