use Rattle.std.proofs.Common.{refl}
use Rattle.intern_table.specs.Joined.{sliced_entry}
use Rattle.intern_table.specs.Listed.{slice_count}
use Rattle.intern_table.proofs.Walks.{counted}
use Rattle.intern_table.proofs.Tabled.{seen_entries}
use Rattle.intern_table.proofs.slice_table.SliceTable.counts.Goals as goal

pub returns : goal.returns
returns g c = counted slice_count (sliced_entry g.A.NearItems.near_of c.self.inside.items.items) (λ r. refl) _ _ (seen_entries c.self.view_is) _ c.iter-entries.ensures
