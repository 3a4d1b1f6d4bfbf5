use Rattle.std.proofs.Common.{ap, is_some, ◌∙◌}
use Rattle.intern_table.specs.Joined.{sliced_entry}
use Rattle.intern_index.proofs.Seen.{placed}
use Rattle.intern_table.proofs.Tabled.{seen_entries}
use Rattle.intern_table.proofs.slice_table.SliceTableEntries.place.Goals as goal

pub returns : goal.returns
returns g c = ap is_some c.place.ensures ∙ placed (sliced_entry g.A.NearItems.near_of c.self.inside.items.items) _ _ (seen_entries c.self.view_is) c.args.birth
