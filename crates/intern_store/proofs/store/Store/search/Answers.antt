use Rattle.intern_store.proofs.Births.{birth_is}
use Rattle.intern_store.proofs.States.{seen_state}
use Rattle.intern_store.proofs.store.Store.search.Goals as goal

pub returns-clause-birth : goal.returns-clause-birth
returns-clause-birth g c = birth_is g.E.Value.PartialEq.eq (λ s. s.birth) g.met.E.Value.Eq.laws _ _ (seen_state c.self.view_is) c.self.invariant (g.E.Finds.value c.args.query.now) c.find.result c.find.ensures.found c.find.ensures.none
