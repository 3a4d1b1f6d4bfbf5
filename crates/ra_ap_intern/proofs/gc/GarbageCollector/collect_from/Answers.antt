use Rattle.ra_ap_intern.proofs.Following.{collection}
use Rattle.ra_ap_intern.proofs.gc.GarbageCollector.collect_from.Goals as goal

pub returns-clause-ok : goal.returns-clause-ok
returns-clause-ok g c = (
  c.in_ok-trace.field-0.marked,
  collection _ _ _ _ c.in_ok-trace.ensures c.sweep.ensures.visits c.sweep.ensures.mark_calls c.sweep.ensures.removed,
  c.sweep.ensures.family,
)
