use Rattle.intern_store.proofs.Births.{searched}
use Rattle.intern_store.proofs.States.{seen_state}
use Rattle.intern_store.proofs.store.Store.sought.Goals as goal

pub returns : goal.returns
returns g c = searched (g.E.Seeks.fits c.args.query.now) g.E.Value.PartialEq.eq (g.met.E.Seeks.alike c.args.query.now) _ _ (seen_state c.self.view_is) c.self.invariant (λ s. s.birth) c.seek.result c.seek.ensures.found c.seek.ensures.none
