use Rattle.std.proofs.Common.{◌≡◌, ℕ, ◌<◌, map, true, Some, IsSome}
use Rattle.std.specs.List.{slice_get}
use Rattle.ra_ap_intern.specs.Names.{has}
use Rattle.ra_ap_intern.specs.State.{reads}
use Rattle.intern_terms.specs.Handle.{term_name}
use Rattle.intern_terms.specs.Walk.{IsWalk}
use Rattle.intern_terms.specs.declared.handle.TermRef.{TermRef}
use Rattle.intern_terms.proofs.store.TermStore.walk.Given as goal

-- the listed terms up to this one were found
abbrev pub invariant-loop-term : goal.invariant-loop-term
invariant-loop-term g l = record {
  walk : IsWalk (map term_name l.terms) l.self l.found;
  found : (k : ℕ) (t : TermRef) → k < l.term-index → slice_get l.terms k ≡ Some t
      → IsSome (reads l.self (term_name t)) → has l.found (term_name t) ≡ true;
}
