use Rattle.ra_ap_intern.specs.Interning.{ReadsOn}
use Rattle.types.proofs.copy.copy.Given as goal

-- what was read is read
abbrev pub invariant-loop : goal.invariant-loop
invariant-loop l = ReadsOn l.fn.types l.types
