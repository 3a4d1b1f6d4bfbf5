use Rattle.intern_store.proofs.States.{empty_state}
use Rattle.intern_store.proofs.store.Store.with_hasher.Goals as goal

pub invariant_of-result : goal.invariant_of-result
invariant_of-result g c = empty_state g.E.Value.PartialEq.eq _ _ _ _ c.requires c.new.ensures.entries
