use Rattle.ra_ap_intern.proofs.Following.{collection, roots_begin}
use Rattle.ra_ap_intern.proofs.gc.GarbageCollector.collect_keeping.Goals as goal

pub sweep-requires : goal.sweep-requires
sweep-requires g c =
    let listed = c.args.roots.now in
    let begun = roots_begin (g.F.Family.entries c.args.family.now) listed c.learn.new.self c.root.new.self
    c.in_ok-learn.ensures.ok c.root.ensures in
    (c.followed.ensures listed begun.0 begun.1).trace

pub returns-clause-ok : goal.returns-clause-ok
returns-clause-ok g c =
    let listed = c.args.roots.now in
    let begun = roots_begin (g.F.Family.entries c.args.family.now) listed c.learn.new.self c.root.new.self
    c.in_ok-learn.ensures.ok c.root.ensures in (
      c.followed.result.marked,
      collection _ _ _ _ (c.followed.ensures listed begun.0 begun.1)
          c.sweep.ensures.visits c.sweep.ensures.mark_calls c.sweep.ensures.removed,
      c.sweep.ensures.family,
    )
