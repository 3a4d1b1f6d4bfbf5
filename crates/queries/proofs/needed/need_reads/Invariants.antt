use Rattle.std.proofs.Common.{take}
use Rattle.queries.specs.Needed.{TakesReads}
use Rattle.queries.proofs.needed.need_reads.Given as goal

-- the reads that were passed were taken
abbrev pub invariant-loop-read : goal.invariant-loop-read
invariant-loop-read l = TakesReads l.keys (take l.read-index l.read-items) l.fn.needed.keys l.needed.keys
