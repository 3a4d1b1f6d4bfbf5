use Rattle.ra_ap_intern.specs.Handle.{ref_name}
use Rattle.ra_ap_intern.proofs.CallerLemmas.{listed_singly, reads_collected}
use Rattle.types.specs.Types.{declared_by}
use Rattle.types.proofs.store.Types.collect.Goals as goal

pub returns-clause-ok : goal.returns-clause-ok
returns-clause-ok c =
    rw (← c.self.view_is, ← listed_singly ref_name c.args.roots.now) c.collect_from.ensures.ok

pub returns-clause-stays : goal.returns-clause-stays
returns-clause-stays c =
    rw (← c.self.view_is, ← listed_singly ref_name c.args.roots.now)
    (reads_collected declared_by _ _ _ c.collect_from.result
    (c.collect_from.ensures.ok, c.collect_from.ensures.err))
