use Rattle.intern_terms.specs.Handle.{term_name}
use Rattle.intern_terms.specs.Walk.{AreFound, items_at}
use Rattle.intern_terms.proofs.store.TermStore.first_unfound.Given as goal

-- the arguments up to this one were found
abbrev pub invariant-loop-index : goal.invariant-loop-index
invariant-loop-index g l =
    AreFound l.found (items_at l.self (term_name l.fn.top.term)) l.fn.top.found l.index
