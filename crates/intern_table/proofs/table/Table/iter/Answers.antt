use Rattle.std.proofs.Common.{refl, subst}
use Rattle.std.specs.Prelude.{IsPermutation}
use Rattle.intern_index.specs.Listed.{listed_of}
use Rattle.intern_index.specs.Seen.{kept_entry}
use Rattle.intern_store.proofs.Maps.{listed_through}
use Rattle.intern_table.proofs.Tabled.{seen_entries}
use Rattle.intern_table.proofs.table.Table.iter.Goals as goal

pub returns : goal.returns
returns g c =
    subst (IsPermutation c.iter.result)
    (listed_through kept_entry listed_of (λ e. (e.0, (e.1.value, e.1.count))) (λ e. refl) _ _ (seen_entries c.self.view_is))
    c.iter.ensures
