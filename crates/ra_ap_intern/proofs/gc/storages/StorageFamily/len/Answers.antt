use Rattle.std.proofs.Common.{ap, arith}
use Rattle.std.specs.FinMap.{len}
use Rattle.intern_store.specs.State.{State}
use Rattle.ra_ap_intern.proofs.Entries.{entries-length}
use Rattle.ra_ap_intern.specs.declared.storage.Storage.TheInside.{Inside}
use Rattle.ra_ap_intern.proofs.gc.storages.StorageFamily.len.Goals as goal

pub returns : goal.returns
returns g c =
    omega (
      arith,
      c.len.type_inv,
      entries-length g.K.Visits.children c.args.self.now,
      ap (λ (s : Inside _ _ _ _). len s.inner.state.map) c.self-inside.view_is,
      ap (λ (s : State _). len s.map) c.self.view_is,
    )
