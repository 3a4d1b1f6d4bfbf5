use Rattle.intern_store.proofs.States.{taken_state}
use Rattle.intern_store.proofs.store.Store.take.Goals as goal

pub invariant_of-self : goal.invariant_of-self
invariant_of-self g c = taken_state g.E.Value.PartialEq.eq _ c.args.spot.birth _ c.self.invariant c.remove.ensures.removed
