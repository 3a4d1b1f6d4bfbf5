use Rattle.std.proofs.Common.{◌+◌, Some, ap, sym, ◌∙◌, arith}
use Rattle.std.specs.Option.{option_map, option_and_then}
use Rattle.std.proofs.lemmas.Option.{same_Some}
use Rattle.std.specs.Ordering.{nat_cmp}
use Rattle.std.specs.FinMap.{FinMap}
use Rattle.intern_store.specs.Kept.{Kept, raised}
use Rattle.intern_store.specs.State.{State, count_at, counted_up, due_found_full, found_counted, full, name_in}
use Rattle.intern_store.specs.declared.store.Store.TheInside.{Inside}
use Rattle.intern_store.proofs.Births.{birth_found, birth_unfound}
use Rattle.intern_store.proofs.States.{changed_state, changed_count, same_count, count_within, raised_below, raised_full, raised_within, full_at, not_full, seen_state}
use Rattle.intern_store.proofs.store.Store.count_up_stored.Goals as goal

-- a store's state with these entries
abbrev with_entries : {E V H : Type 0} → Inside E V H → FinMap nat_cmp (Kept V) → State V
with_entries s m = record { number = s.number; next = s.next; top = s.top; numbers = s.numbers; map = m }

-- a value that is stored
pub invariant_of-self : goal.invariant_of-self
invariant_of-self g c =
    changed_state g.E.Value.PartialEq.eq (raised c.self.inside.top) _ c.in-Ok.spot.birth _ c.self.invariant (raised_within c.self.inside.top) c.in-Ok.ensures.state

pub invariant_of-self-in-Ok : goal.invariant_of-self-in-Ok
invariant_of-self-in-Ok g c =
    changed_state g.E.Value.PartialEq.eq (raised c.self.inside.top) _ c.in-Ok.spot.birth _ c.self.invariant (raised_within c.self.inside.top) c.in-Ok.ensures.state

pub returns-then-count-top-clause-refused : goal.returns-then-count-top-clause-refused
returns-then-count-top-clause-refused g c =
    let s = c.args.self.now.state in
    let b = c.in-Ok.spot.birth in
    let stored = birth_found g.E.Value.PartialEq.eq g.met.E.Value.Eq.laws _ _ (seen_state c.self.view_is) c.self.invariant (g.E.Finds.value c.args.offer.now) b c.in-Ok.ensures.found in
    let count = ap (λ s. count_at s b) (sym (seen_state c.self.view_is)) ∙ c.in-Ok.ensures.count in
    ap (λ o. due_found_full o s) stored ∙ ap (option_and_then (full s.top)) count ∙ full_at c.in-Ok.count s.top (c.if-count-top.true ∙ ap (λ s. s.top) (seen_state c.self.view_is))

pub returns-then-count-top-clause-state : goal.returns-then-count-top-clause-state
returns-then-count-top-clause-state g c =
    same_count (raised c.self.inside.top) _ c.in-Ok.spot.birth _ c.in-Ok.ensures.state (λ n is.
    let same = same_Some _ _ (sym c.in-Ok.ensures.count ∙ is) in
    let full = c.if-count-top.true in
    raised_full c.self.inside.top n (omega arith))
    ∙ (seen_state c.self.view_is)

pub returns-else-count-top-clause-found : goal.returns-else-count-top-clause-found
returns-else-count-top-clause-found g c =
    let b = c.in-Ok.spot.birth in
    let stored = birth_found g.E.Value.PartialEq.eq g.met.E.Value.Eq.laws _ _ (seen_state c.self.view_is) c.self.invariant (g.E.Finds.value c.args.offer.now) b c.in-Ok.ensures.found in
    ap Some (c.key.ensures ∙ ap (λ (s : State g.row.E-Value.Denot). name_in s b) (seen_state c.self.view_is)) ∙ sym (ap (option_map (name_in c.args.self.now.state)) stored)

pub returns-else-count-top-clause-refused : goal.returns-else-count-top-clause-refused
returns-else-count-top-clause-refused g c =
    let s = c.args.self.now.state in
    let b = c.in-Ok.spot.birth in
    let stored = birth_found g.E.Value.PartialEq.eq g.met.E.Value.Eq.laws _ _ (seen_state c.self.view_is) c.self.invariant (g.E.Finds.value c.args.offer.now) b c.in-Ok.ensures.found in
    let count = ap (λ s. count_at s b) (sym (seen_state c.self.view_is)) ∙ c.in-Ok.ensures.count in
    ap (λ o. due_found_full o s) stored ∙ ap (option_and_then (full s.top)) count
    ∙ not_full c.in-Ok.count s.top (λ top. c.if-count-top.false (top ∙ ap (λ s. s.top) (sym (seen_state c.self.view_is))))

pub returns-else-count-top-clause-state : goal.returns-else-count-top-clause-state
returns-else-count-top-clause-state g c =
    let eq = g.E.Value.PartialEq.eq in
    let v = g.E.Finds.value c.args.offer.now in
    let b = c.in-Ok.spot.birth in
    let stored = birth_found eq g.met.E.Value.Eq.laws _ _ (seen_state c.self.view_is) c.self.invariant v b c.in-Ok.ensures.found in
    changed_count (raised c.self.inside.top) (λ n. n + 1) _ b _ c.in-Ok.ensures.state (λ n is.
    let same = same_Some _ _ (sym c.in-Ok.ensures.count ∙ is) in
    let fits = count_within eq _ b n c.self.invariant is in
    let other = c.if-count-top.false in
    raised_below c.self.inside.top n (omega arith))
    ∙ ap (λ s. counted_up s b) (seen_state c.self.view_is)
    ∙ sym (ap (λ o. found_counted o c.args.self.now.state) stored)

-- a value that isn't
pub returns-in-Err-clause-found : goal.returns-in-Err-clause-found
returns-in-Err-clause-found g c =
    let fresh = birth_unfound g.E.Value.PartialEq.eq _ _ (seen_state c.self.view_is) (g.E.Finds.value c.args.offer.now) c.in-Err.ensures.none in
    sym (ap (option_map (name_in c.args.self.now.state)) fresh)

pub returns-in-Err-clause-refused : goal.returns-in-Err-clause-refused
returns-in-Err-clause-refused g c =
    let fresh = birth_unfound g.E.Value.PartialEq.eq _ _ (seen_state c.self.view_is) (g.E.Finds.value c.args.offer.now) c.in-Err.ensures.none in
    ap (λ o. due_found_full o c.args.self.now.state) fresh

pub returns-in-Err-clause-state : goal.returns-in-Err-clause-state
returns-in-Err-clause-state g c =
    let fresh = birth_unfound g.E.Value.PartialEq.eq _ _ (seen_state c.self.view_is) (g.E.Finds.value c.args.offer.now) c.in-Err.ensures.none in
    ap (with_entries c.self.inside) c.in-Err.ensures.same ∙ (seen_state c.self.view_is) ∙ sym (ap (λ o. found_counted o c.args.self.now.state) fresh)
