use Rattle.std.proofs.Common.{◌≡◌, ap, arith}
use Rattle.intern_store.proofs.Births.{not_stored_in}
use Rattle.intern_store.proofs.States.{fresh_state, seen_state}
use Rattle.intern_store.proofs.store.Store.add.Goals as goal

pub invariant_of-self : goal.invariant_of-self
invariant_of-self g c =
    let eq = g.E.Value.PartialEq.eq in
    let v = g.E.Finds.value c.args.offer in
    let top : c.self.inside.top ≡ c.args.self.now.state.top = ap (λ s. s.top) (seen_state c.self.view_is) in
    fresh_state eq g.met.E.Value.Eq.laws _ v c.args.count _ c.self.invariant (let w = c.self.invariant.within in omega arith) (omega arith)
    (not_stored_in eq _ _ (seen_state c.self.view_is) v c.requires.fresh) c.in-Ok.ensures.ok
