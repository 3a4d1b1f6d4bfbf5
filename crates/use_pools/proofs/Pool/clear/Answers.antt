use Rattle.std.proofs.Common.{ap, ◌∙◌}
use Rattle.ra_ap_intern.specs.Held.{emptied}
use Rattle.ra_ap_intern.proofs.CallerLemmas.{all_released}
use Rattle.use_pools.proofs.Pool.clear.Goals as goal

pub returns-clause-words : goal.returns-clause-words
returns-clause-words c =
    let none = c.in_default.ensures.none in
    let left = c.forget.new.self in
    all_released c.args.self.now.words left.words (ap emptied none.2 ∙ c.loop.invariant)
    (rw none.1 at left.balanced) left.counted
