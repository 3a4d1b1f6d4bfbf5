use Rattle.std.proofs.Common.{◌-◌, ap, refl, ◌∙◌, arith}
use Rattle.std.proofs.lemmas.Option.{same_Some}
use Rattle.intern_store.specs.State.{counted_down}
use Rattle.intern_store.proofs.States.{changed_state, changed_count, same_count, seen_state}
use Rattle.intern_store.proofs.store.Store.lower.Goals as goal
use Rattle.intern_store.proofs.store.Store.lower.Goals.{in-None, in-Some-eq0, in-Some}

pub invariant_of-self : goal.invariant_of-self
invariant_of-self g c =
    changed_state g.E.Value.PartialEq.eq (λ n. n - 1) _ c.args.spot.birth _ c.self.invariant (λ n fits. omega arith) c.count_down.ensures.state

pub returns-clause-state : goal.returns-clause-state
returns-clause-state g c =
    elim c.match-count_down.branch [
      | in-None w ↦ rw w.result-is (
          same_count (λ n. n - 1) _ c.args.spot.birth _ c.count_down.ensures.state (λ n is. let none = w.in-None.ensures.count in absurd (cc))
          ∙ (seen_state c.self.view_is))
      | in-Some-eq0 w ↦ rw w.result-is (
          same_count (λ n. n - 1) _ c.args.spot.birth _ c.count_down.ensures.state (λ n is. let same = same_Some _ _ (w.in-Some-eq0.ensures.count ∙ is) in omega arith)
          ∙ (seen_state c.self.view_is))
      | in-Some w ↦ rw w.result-is (
          changed_count (λ n. n - 1) (λ n. n - 1) _ c.args.spot.birth _ c.count_down.ensures.state (λ n is. refl)
          ∙ ap (λ s. counted_down s c.args.spot.birth) (seen_state c.self.view_is))
    ]
