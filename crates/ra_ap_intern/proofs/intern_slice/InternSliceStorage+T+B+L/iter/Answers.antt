use Rattle.std.proofs.Common.{ap, ◌∙◌}
use Rattle.intern_table.specs.Read.{shown}
use Rattle.ra_ap_intern.specs.Slices.{slice_with_name}
use Rattle.ra_ap_intern.proofs.Listings.{named_entries}
use Rattle.ra_ap_intern.specs.declared.storage.Storage.TheInside.{Inside}
use Rattle.ra_ap_intern.proofs.intern_slice.InternSliceStorage+T+B+L.iter.Goals as goal

pub returns : goal.returns
returns g c =
    named_entries slice_with_name (λ e. (e.0, shown e.1))
    _ _ (ap (λ (s : Inside _ _ _ _). s.inner.state) c.self-inside.view_is ∙ c.self.view_is) _ c.table.ensures _ c.number.ensures.number c.iter.result c.iter.ensures
