use Rattle.std.proofs.Common.{ap, sym, ◌∙◌}
use Rattle.std.specs.FinMap.{len}
use Rattle.intern_table.specs.Joined.{sliced_entry}
use Rattle.intern_store.proofs.Maps.{len-map_values}
use Rattle.intern_table.proofs.Tabled.{seen_entries}
use Rattle.intern_table.proofs.slice_table.SliceTableEntries.len.Goals as goal

pub returns : goal.returns
returns g c = c.len.ensures ∙ sym (len-map_values (sliced_entry g.A.NearItems.near_of c.self.inside.items.items) _) ∙ ap len (seen_entries c.self.view_is)
