use Rattle.std.proofs.Common.{◌+◌, ap, ◌∙◌, arith}
use Rattle.std.proofs.lemmas.Option.{same_Some}
use Rattle.intern_store.specs.Kept.{raised}
use Rattle.intern_store.specs.State.{counted_up}
use Rattle.intern_store.proofs.States.{changed_state, changed_count, same_count, count_within, raised_below, raised_full, raised_within, seen_state}
use Rattle.intern_store.proofs.store.Store.raise.Goals as goal
use Rattle.intern_store.proofs.store.Store.raise.Goals.{in-None, in-Some, in-Some-2}

pub invariant_of-self : goal.invariant_of-self
invariant_of-self g c =
    changed_state g.E.Value.PartialEq.eq (raised c.self.inside.top) _ c.args.spot.birth _ c.self.invariant (raised_within c.self.inside.top) c.count_up.ensures.state

pub returns-clause-state : goal.returns-clause-state
returns-clause-state g c =
    elim c.match-count_up.branch [
      | in-None w ↦ rw w.result-is (
          same_count (raised c.self.inside.top) _ c.args.spot.birth _ c.count_up.ensures.state (λ n is. let none = w.in-None.ensures.count in absurd (cc))
          ∙ (seen_state c.self.view_is))
      | in-Some w ↦ rw w.result-is (
          same_count (raised c.self.inside.top) _ c.args.spot.birth _ c.count_up.ensures.state (λ n is.
          let same = same_Some _ _ (w.in-Some.ensures.count ∙ is) in
          let full = w.if-count-self.true in
          raised_full c.self.inside.top n (omega arith))
          ∙ (seen_state c.self.view_is))
      | in-Some-2 w ↦ rw w.result-is (
          changed_count (raised c.self.inside.top) (λ n. n + 1) _ c.args.spot.birth _ c.count_up.ensures.state (λ n is.
          let same = same_Some _ _ (w.in-Some.ensures.count ∙ is) in
          let fits = count_within g.E.Value.PartialEq.eq _ c.args.spot.birth n c.self.invariant is in
          let other = w.if-count-self.false in
          raised_below c.self.inside.top n (omega arith))
          ∙ ap (λ s. counted_up s c.args.spot.birth) (seen_state c.self.view_is))
    ]
