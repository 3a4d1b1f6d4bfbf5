use Rattle.std.proofs.Common.{◌≡◌, map, drop}
use Rattle.ra_ap_intern.specs.Handle.{ref_name}
use Rattle.ra_ap_intern.specs.Order.{due_each}
use Rattle.ra_ap_intern.proofs.storage.Storage.check_all.Given as goal

-- what is due of all references is due of those that are left
abbrev pub invariant-loop-reference : goal.invariant-loop-reference
invariant-loop-reference g l =
    due_each l.self (map ref_name (drop l.reference-index l.references))
    ≡ due_each l.self (map ref_name l.references)
