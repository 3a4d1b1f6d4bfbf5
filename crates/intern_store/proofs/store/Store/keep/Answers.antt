use Rattle.intern_store.proofs.States.{kept_state}
use Rattle.intern_store.proofs.store.Store.keep.Goals as goal

pub invariant_of-self : goal.invariant_of-self
invariant_of-self g c = kept_state g.E.Value.PartialEq.eq _ (g.M.Keeps.marked c.args.marks.now) _ c.self.invariant c.keep.ensures.kept
