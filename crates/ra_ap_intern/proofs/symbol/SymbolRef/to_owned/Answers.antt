use Rattle.ra_ap_intern.proofs.Tables.{up_table, either_table}
use Rattle.ra_ap_intern.proofs.symbol.SymbolRef.to_owned.Goals as goal

pub invariant_of-table-inside : goal.invariant_of-table-inside
invariant_of-table-inside g c =
    either_table _ _ _ _ c.count_up.ensures.state (up_table _ c.in-Runtime.key.spot.birth c.table-inside.invariant) c.table-inside.invariant
