use Rattle.std.proofs.Common.{◌∙◌}
use Rattle.intern_table.proofs.Joins.{count_read}
use Rattle.intern_table.proofs.Tabled.{seen_entries}
use Rattle.intern_table.proofs.slice_table.SliceTableEntries.count.Goals as goal

pub returns : goal.returns
returns g c = c.count_of.ensures ∙ count_read g.A.NearItems.near_of _ _ _ (seen_entries c.self.view_is) c.args.spot.birth _ c.payload.ensures
