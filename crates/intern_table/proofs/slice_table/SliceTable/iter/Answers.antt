use Rattle.std.proofs.Common.{refl, subst, ◌∙◌}
use Rattle.std.specs.Prelude.{IsPermutation, map as list_map}
use Rattle.std.specs.FinMap.{entries}
use Rattle.std.proofs.lemmas.List.Sorted.{IsPermutation-map}
use Rattle.std.proofs.lemmas.Simd.{map-map}
use Rattle.intern_index.specs.Listed.{listed_of}
use Rattle.intern_store.proofs.Maps.{listed_through}
use Rattle.intern_table.specs.Joined.{sliced_entry}
use Rattle.intern_table.specs.Listed.{slice_among}
use Rattle.intern_table.specs.Read.{shown}
use Rattle.intern_table.proofs.Tabled.{seen_entries}
use Rattle.intern_table.proofs.slice_table.SliceTable.iter.Goals as goal

pub returns : goal.returns
returns g c =
    let xs = c.self.inside.items.items in
    let among = slice_among g.A.NearItems.near_of xs in
    rw c.as_slice.ensures.value (
    subst (IsPermutation (list_map among c.iter.result))
    (map-map among listed_of (entries c.self.inside.index.entries)
    ∙ listed_through (sliced_entry g.A.NearItems.near_of xs) (λ e. among (listed_of e)) (λ e. (e.0, shown e.1)) (λ e. refl) _ _ (seen_entries c.self.view_is))
    (IsPermutation-map among _ _ c.iter.ensures))
