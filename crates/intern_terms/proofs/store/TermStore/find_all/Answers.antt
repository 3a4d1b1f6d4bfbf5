use Rattle.std.proofs.Common.{◌≡◌, inl, inr, ◌<◌, true, List, ◌∷◌, [], ◌++◌, refl, sym, ap, subst, ◌∙◌}
use Rattle.ra_ap_intern.specs.Names.{has}
use Rattle.ra_ap_intern.specs.Name.{Name}
use Rattle.intern_terms.specs.Handle.{term_name}
use Rattle.intern_terms.specs.Walk.{IsWalk, with_name}
use Rattle.intern_terms.specs.declared.walk.Open.{Open}
use Rattle.intern_terms.proofs.Opened.{AreOpen, AllReached, Begins, begins_push, begins_again, begins_pop, deeper_open, deeper_reached, deeper_less, done_walk, done_less, open_found, open_name, work}
use Rattle.intern_terms.proofs.Walks.{with_later, with_itself}
use Rattle.intern_terms.proofs.store.TermStore.find_all.Goals as goal

pub loop-top-smaller-in-Continue-branch-3 : goal.loop-top-smaller-in-Continue-branch-3
loop-top-smaller-in-Continue-branch-3 g c =
    let s = c.args.self.now in
    let found = c.loop-top.found in
    let popped = c.in-Some.ensures.items in
    let all = subst (AreOpen s found s.next) popped c.loop-top.invariant.stack in
    let is = c.in-Some-first_unfound.ensures.some in
    let deeper : Open = record { term = c.in-Some-first_unfound.argument; found = 0 } in
    let now : List Open = c.push-in-Some-first_unfound-2.new.self.items in
    let pushed = c.in_ok-push-in-Some-first_unfound-2.ensures.items
    ∙ ap (λ (os : List Open). os ++ deeper ∷ []) c.in_ok-push-in-Some-first_unfound.ensures.items in
    subst (λ os. work s found now < work s found os) (sym popped)
    (subst (λ os. work s found os < work s found (c.pop.new.self.items ++ c.in-Some.top ∷ [])) (sym pushed)
    (deeper_less s c.contains.ensures.state.built found c.pop.new.self.items c.in-Some.top all
    c.in-Some-first_unfound.index c.in-Some-first_unfound.argument is.0 is.1 is.2))

pub loop-top-preserved-in-Continue-branch-3 : goal.loop-top-preserved-in-Continue-branch-3
loop-top-preserved-in-Continue-branch-3 g c =
    let s = c.args.self.now in
    let built = c.contains.ensures.state.built in
    let found = c.loop-top.found in
    let rest = c.pop.new.self.items in
    let top = c.in-Some.top in
    let popped = c.in-Some.ensures.items in
    let all = subst (AreOpen s found s.next) popped c.loop-top.invariant.stack in
    let is = c.in-Some-first_unfound.ensures.some in
    let index = c.in-Some-first_unfound.index in
    let argument = c.in-Some-first_unfound.argument in
    let again : Open = record { term = top.term; found = index } in
    let deeper : Open = record { term = argument; found = 0 } in
    let pushed = c.in_ok-push-in-Some-first_unfound-2.ensures.items
    ∙ ap (λ (os : List Open). os ++ deeper ∷ []) c.in_ok-push-in-Some-first_unfound.ensures.items in
    record {
      stack = subst (AreOpen s found s.next) (sym pushed)
          (deeper_open s built found rest top all index argument is.0 is.1 is.2);
      walk = λ listed root before.
          let w = c.loop-top.invariant.walk listed root before in (
            w.0,
            subst (AllReached listed s) (sym pushed)
                (deeper_reached s built found rest top all index argument is.0 is.1 is.2 listed
                (subst (AllReached listed s) popped w.1)),
          );
      keeps = c.loop-top.invariant.keeps;
      begins = elim c.loop-top.invariant.begins [
        | inl already ↦ inl already
        | inr first ↦ inr (subst (Begins (term_name c.args.root)) (sym pushed)
            (begins_push (term_name c.args.root) (rest ++ again ∷ []) deeper
            (begins_again (term_name c.args.root) rest top again refl
            (subst (Begins (term_name c.args.root)) popped first))))
      ];
    }

pub loop-top-smaller : goal.loop-top-smaller
loop-top-smaller g c =
    let s = c.args.self.now in
    let found = c.loop-top.found in
    let rest = c.pop.new.self.items in
    let popped = c.in-Some.ensures.items in
    let all = subst (AreOpen s found s.next) popped c.loop-top.invariant.stack in
    subst (λ f. work s f rest < work s found c.loop-top.open.items)
    (sym c.in_ok-push-in-None.ensures)
    (subst (λ os. work s (with_name found (open_name c.in-Some.top)) rest < work s found os)
    (sym popped)
    (done_less s c.contains.ensures.state.built found rest c.in-Some.top all
    c.in-None.ensures.none))

pub loop-top-preserved : goal.loop-top-preserved
loop-top-preserved g c =
    let s = c.args.self.now in
    let built = c.contains.ensures.state.built in
    let found = c.loop-top.found in
    let rest = c.pop.new.self.items in
    let top = c.in-Some.top in
    let root = term_name c.args.root in
    let popped = c.in-Some.ensures.items in
    let all = subst (AreOpen s found s.next) popped c.loop-top.invariant.stack in
    let pushed = c.in_ok-push-in-None.ensures in
    let later = λ (n : Name) (is : has found n ≡ true).
    subst (λ f. has f n ≡ true) (sym pushed) (with_later found (open_name top) n is) in
    record {
      stack = subst (λ f. AreOpen s f s.next rest) (sym pushed)
          (open_found s found s.next rest top all);
      walk = λ listed is before.
          let w = c.loop-top.invariant.walk listed is before in
          let done = done_walk s built found rest top all c.in-None.ensures.none listed w.0
          (subst (AllReached listed s) popped w.1) in
          (subst (IsWalk listed s) (sym pushed) done.0, done.1);
      keeps = λ n is. later n (c.loop-top.invariant.keeps n is);
      begins = elim c.loop-top.invariant.begins [
        | inl already ↦ inl (later root already)
        | inr first ↦ elim (begins_pop root rest top (subst (Begins root) popped first)) [
          | inl same ↦ inl (subst (λ f. has f root ≡ true) (sym pushed)
              (subst (λ n. has (with_name found n) root ≡ true) (sym same)
              (with_itself found root)))
          | inr still ↦ inr still
        ]
      ];
    }
