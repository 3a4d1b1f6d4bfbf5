use Rattle.std.proofs.Common.{◌≡◌}
use Rattle.ra_ap_intern.specs.Names.{has}
use Rattle.intern_terms.specs.Store.{without_heads}
use Rattle.intern_terms.proofs.store.TermStore.release_heads.Given as goal

-- what is left to give up makes of the table what all of it makes of the first
abbrev pub invariant-loop-term : goal.invariant-loop-term
invariant-loop-term g l =
    without_heads (has l.trace.marked) l.term-iterator l.heads
    ≡ without_heads (has l.fn.trace.marked) l.initial.term-iterator l.fn.heads
