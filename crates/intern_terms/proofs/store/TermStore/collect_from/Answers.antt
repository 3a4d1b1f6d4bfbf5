use Rattle.ra_ap_intern.proofs.CallerLemmas.{built_collected}
use Rattle.intern_terms.specs.Store.{arguments}
use Rattle.intern_terms.proofs.Collected.{tree_collected}
use Rattle.intern_terms.proofs.store.TermStore.collect_from.Goals as goal

pub invariant_of-self : goal.invariant_of-self
invariant_of-self g c =
    built_collected arguments _ _ _ c.collect_from.result
    (c.collect_from.ensures.ok, c.collect_from.ensures.err) c.self.invariant

pub returns-clause-ok : goal.returns-clause-ok
returns-clause-ok g c = rw (← c.self.view_is) c.collect_from.ensures.ok

pub returns-clause-trees : goal.returns-clause-trees
returns-clause-trees g c =
    rw (← c.self.view_is) (tree_collected _ _ _ c.collect_from.result
    (c.collect_from.ensures.ok, c.collect_from.ensures.err))
