use Rattle.std.proofs.Common.{sym, subst}
use Rattle.intern_store.specs.Outcome.{Becomes}
use Rattle.intern_store.proofs.States.{counted_up-interned}
use Rattle.intern_store.proofs.store.Store.add_counted.Goals as goal

pub returns-clause-state : goal.returns-clause-state
returns-clause-state g c =
    subst (Becomes c.add.result c.args.self.now.state c.add.new.self.state)
    (sym (counted_up-interned g.E.Value.PartialEq.eq c.args.self.now.state (g.E.Finds.value c.args.offer) c.requires.fresh)) c.add.ensures.state
