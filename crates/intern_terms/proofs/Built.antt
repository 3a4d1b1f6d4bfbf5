-- Each argument stays an earlier term, whatever happens to a store.
use Rattle.std.proofs.Common.{◌≡◌, List, map, None, Result, sym, ap, subst, ◌∙◌}
use Rattle.ra_ap_intern.specs.Order.{due_each}
use Rattle.ra_ap_intern.specs.Outcome.{Becomes}
use Rattle.ra_ap_intern.specs.Sliced.{Sliced}
use Rattle.ra_ap_intern.specs.Slices.{slice_of}
use Rattle.ra_ap_intern.specs.State.{State, interned}
use Rattle.ra_ap_intern.specs.declared.symbol.Symbol.{Symbol}
use Rattle.intern_terms.specs.Handle.{term_name}
use Rattle.intern_terms.specs.Store.{arguments, same_node, IsBuilt, IsTerms}
use Rattle.intern_terms.specs.declared.handle.TermRef.{TermRef}
use Rattle.ra_ap_intern.proofs.CallerLemmas.{becomes_either, built_interned, each_read}

-- a call that stores a term over arguments that can all be read
pub built_after_term : {A E : Type 0} (r : Result A E) (seen s t : State (Sliced Symbol TermRef))
    (head : Symbol) (args : List TermRef) → s ≡ seen → IsTerms seen
    → due_each seen (map term_name args) ≡ None
    → Becomes r s t (interned same_node s (slice_of head args)).state → IsBuilt t
built_after_term r seen s t head args same ok none becomes =
    let known = subst IsTerms (sym same) ok in
    becomes_either IsBuilt r s t _ becomes known.built
    (built_interned arguments same_node s known.state (slice_of head args) known.built
    (each_read s _ (ap (λ x. due_each x (map term_name args)) same ∙ none)))
