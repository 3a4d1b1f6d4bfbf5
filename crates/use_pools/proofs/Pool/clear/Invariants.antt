use Rattle.std.proofs.Common.{◌≡◌, length}
use Rattle.ra_ap_intern.specs.Held.{emptied}
use Rattle.use_pools.proofs.Pool.clear.Given as goal

-- beside its entries the storage is as it was
abbrev pub invariant-loop : goal.invariant-loop
invariant-loop l = emptied l.self.words ≡ emptied l.initial.self.words

abbrev pub decreases-loop : goal.decreases-loop
decreases-loop l = length l.self.held.items
