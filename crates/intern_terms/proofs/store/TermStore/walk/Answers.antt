use Rattle.std.proofs.Common.{◌≡◌, inl, inr, ◌≤◌, List, map, true, Some, IsSome, Ok, Err, Result, IfOk, sym, subst, arith}
use Rattle.std.specs.List.{slice_get}
use Rattle.std.specs.Global.{Vec}
use Rattle.std.specs.declared.alloc.AllocError.{AllocError}
use Rattle.std.proofs.Math.Nat.{eq-or-lt_of_le}
use Rattle.std.proofs.lemmas.Option.{get_or_from_slice_get, slice_get-get_or}
use Rattle.ra_ap_intern.specs.Name.{Name}
use Rattle.ra_ap_intern.specs.Reach.{IsReachedSet}
use Rattle.intern_terms.specs.Store.{terms_of}
use Rattle.intern_terms.specs.Walk.{begins_at}
use Rattle.ra_ap_intern.specs.Names.{has}
use Rattle.ra_ap_intern.specs.State.{reads}
use Rattle.intern_terms.specs.Handle.{term_name}
use Rattle.intern_terms.specs.declared.handle.TermRef.{TermRef}
use Rattle.intern_terms.proofs.Opened.{listed_at, found_listed}
use Rattle.intern_terms.proofs.Walks.{walk_reaches}
use Rattle.intern_terms.proofs.store.TermStore.walk.Goals as goal

told : (reached : List Name → Type 0) (found : List Name) (r : Result (Vec TermRef) AllocError)
    → IfOk r (λ v. map term_name v.items ≡ found) → reached found
    → IfOk r (λ v. reached (map term_name v.items))
told reached found (Ok v) same is = subst reached (sym same) is
told reached found (Err e) same is = tt

pub loop-term-preserved : goal.loop-term-preserved
loop-term-preserved g c =
    let s = c.args.self.now in
    let terms = c.args.terms.now in
    let i = c.loop-term.term-index in
    let did = c.in_ok-find_all.ensures in
    let at = slice_get-get_or terms i _ c.loop-term-test.true in
    record {
      walk = did.walk (map term_name terms) (listed_at terms i _ at) c.loop-term.invariant.walk;
      found = λ k t lt is there.
          let most : k ≤ i = omega arith in
          elim (eq-or-lt_of_le most) [
            | inr less ↦ did.keeps (term_name t) (c.loop-term.invariant.found k t less is there)
            | inl same ↦
                let here = get_or_from_slice_get terms i t _
                (subst (λ j. slice_get terms j ≡ Some t) same is) in
                subst (λ x. has c.find_all.new.found (term_name x) ≡ true) here
                (did.finds (subst (λ x. IsSome (reads s (term_name x))) (sym here) there))
          ];
    }

pub returns-clause-terms : goal.returns-clause-terms
returns-clause-terms g c =
    let listed = map term_name c.args.terms.now in
    let s = c.args.self.now in
    told (IsReachedSet (begins_at listed s) (terms_of s)) c.loop-term.found c.to_vec.result
    c.to_vec.ensures
    (walk_reaches listed s c.loop-term.found c.loop-term.invariant.walk
    (found_listed s c.loop-term.found c.args.terms.now
    (λ k t lt. c.loop-term.invariant.found k t (omega arith))))
