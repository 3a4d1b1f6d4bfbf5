use Rattle.std.proofs.Common.{ap, ◌∙◌}
use Rattle.ra_ap_intern.specs.Handle.{with_name}
use Rattle.ra_ap_intern.proofs.Listings.{named_entries}
use Rattle.ra_ap_intern.specs.declared.storage.Storage.TheInside.{Inside}
use Rattle.ra_ap_intern.proofs.intern.InternStorage+T+B.iter.Goals as goal

pub returns : goal.returns
returns g c =
    named_entries with_name (λ e. (e.0, (e.1.value, e.1.count)))
    _ _ (ap (λ (s : Inside _ _ _ _). s.inner.state) c.self-inside.view_is ∙ c.self.view_is) _ c.table.ensures _ c.number.ensures.number c.iter.result c.iter.ensures
