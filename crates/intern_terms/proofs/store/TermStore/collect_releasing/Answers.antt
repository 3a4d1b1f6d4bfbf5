use Rattle.std.proofs.Common.{◌∙◌, IsPermutation, IsSome, subst, sym}
use Rattle.ra_ap_intern.specs.Slices.{named_slices}
use Rattle.ra_ap_intern.specs.State.{reads}
use Rattle.ra_ap_intern.proofs.CallerLemmas.{built_kept, listed_singly}
use Rattle.intern_terms.specs.Handle.{term_name}
use Rattle.intern_terms.specs.Store.{arguments, IsBuilt}
use Rattle.intern_terms.specs.Tree.{UnfoldsTo}
use Rattle.intern_terms.proofs.Collected.{left_tree}
use Rattle.intern_terms.proofs.store.TermStore.collect_releasing.Goals as goal

pub invariant_of-self : goal.invariant_of-self
invariant_of-self g c =
    subst IsBuilt (sym c.sweep.ensures.family)
    (built_kept arguments _ _ _ c.in_ok-trace.ensures.reached c.self.invariant)

pub returns-clause-ok : goal.returns-clause-ok
returns-clause-ok g c =
    let traced = c.in_ok-trace.ensures in
    let given = c.release_heads.ensures in
    rw (← c.self.view_is, ← listed_singly term_name c.args.roots.now) (
      c.in_ok-trace.trace.marked,
      record {
        reached = traced.reached;
        visits = c.sweep.ensures.visits ∙ traced.trace.visits;
        mark_calls = c.sweep.ensures.mark_calls ∙ traced.mark_calls;
        removed = c.sweep.ensures.removed;
      },
      c.sweep.ensures.family,
      given.0,
      subst (λ s. IsPermutation given.0 (named_slices s)) (sym c.self.view_is) given.1,
      given.2,
    )

pub returns-clause-trees : goal.returns-clause-trees
returns-clause-trees g c =
    let now = sym c.sweep.ensures.family in
    rw (← c.self.view_is) (λ name t left unfolds.
    subst (λ s. UnfoldsTo s name t) now
    (left_tree _ _ _ c.in_ok-trace.ensures.reached t name
    (subst (λ s. IsSome (reads s name)) c.sweep.ensures.family left) unfolds))
