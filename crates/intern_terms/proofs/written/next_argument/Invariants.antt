use Rattle.std.proofs.Common.{vec_len}
use Rattle.intern_terms.proofs.written.next_argument.Given as goal

-- each turn closes a term
abbrev pub decreases-loop-arguments : goal.decreases-loop-arguments
decreases-loop-arguments l = vec_len l.open
