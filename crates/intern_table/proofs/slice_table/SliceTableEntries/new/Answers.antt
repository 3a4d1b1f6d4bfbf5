use Rattle.intern_table.specs.Joined.{sliced_entry}
use Rattle.intern_index.proofs.Seen.{empty_led}
use Rattle.intern_table.proofs.Joins.{empty_joined}
use Rattle.intern_store.proofs.Maps.{map_values-empty}
use Rattle.intern_table.proofs.slice_table.SliceTableEntries.new.Goals as goal

pub invariant_of-result : goal.invariant_of-result
invariant_of-result g c = record { joined = empty_joined g.A.NearItems.near_of _ _ c.new.ensures c.new-2.ensures.items; led = empty_led _ _ c.new.ensures }

pub returns-clause-entries : goal.returns-clause-entries
returns-clause-entries g c = map_values-empty (sliced_entry g.A.NearItems.near_of c.new-2.result.items) _ c.new.ensures
