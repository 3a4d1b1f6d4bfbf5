use Rattle.ra_ap_intern.proofs.Tables.{released_table, either_table}
use Rattle.ra_ap_intern.proofs.symbol.SymbolRef.decrease_refcount.Goals as goal

pub invariant_of-table-inside : goal.invariant_of-table-inside
invariant_of-table-inside g c =
    either_table _ _ _ _ c.release.ensures.state (released_table _ c.in-Runtime.key.spot.birth c.table-inside.invariant) c.table-inside.invariant
