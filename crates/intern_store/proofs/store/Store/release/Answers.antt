use Rattle.std.proofs.Common.{Some, ap, ◌∙◌}
use Rattle.std.specs.Option.{option_map}
use Rattle.intern_store.specs.declared.names.Spot.{Spot}
use Rattle.intern_store.specs.State.{entry_at, freed, released, taken}
use Rattle.intern_store.proofs.States.{last_freed, last_released}
use Rattle.intern_store.proofs.store.Store.release.Goals as goal

pub returns-then-not-stays-clause-value : goal.returns-then-not-stays-clause-value
returns-then-not-stays-clause-value g c =
    let b = c.in_ok-spot.spot.birth in
    c.take.ensures.value
    ∙ ap (λ t. option_map (λ k. k.value) (entry_at t b)) c.in_ok-count.ensures.state
    ∙ last_freed c.args.stays c.args.self.now.state b c.if-not-stays.true (c.in_ok-count.ensures.ok.1 ∙ ap Some c.if-count-eq1.true)
    ∙ ap (λ (s : Spot). freed c.args.stays c.args.self.now.state s.birth) c.in_ok-spot.ensures.own.1

pub returns-then-not-stays-clause-state : goal.returns-then-not-stays-clause-state
returns-then-not-stays-clause-state g c =
    let b = c.in_ok-spot.spot.birth in
    c.take.ensures.state
    ∙ ap (λ t. taken t b) c.in_ok-count.ensures.state
    ∙ last_released c.args.stays c.args.self.now.state b c.if-not-stays.true (c.in_ok-count.ensures.ok.1 ∙ ap Some c.if-count-eq1.true)
    ∙ ap (λ (s : Spot). released c.args.stays c.args.self.now.state s.birth) c.in_ok-spot.ensures.own.1
