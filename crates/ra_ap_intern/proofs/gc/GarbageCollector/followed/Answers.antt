use Rattle.std.proofs.Common.{◌∙◌, ap}
use Rattle.std.specs.FinMap.{len}
use Rattle.ra_ap_intern.proofs.Following.{traced}
use Rattle.ra_ap_intern.proofs.gc.GarbageCollector.followed.Goals as goal

pub returns : goal.returns
returns g c listed begun size =
    traced (g.F.Family.entries c.args.family.now) listed c.follow.new.self (c.follow.ensures.trace listed begun)
    c.follow.ensures.done (ap len c.follow.ensures.registered ∙ size)
