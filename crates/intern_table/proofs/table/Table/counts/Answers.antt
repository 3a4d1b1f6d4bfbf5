use Rattle.std.proofs.Common.{refl}
use Rattle.intern_index.specs.Seen.{kept_entry}
use Rattle.intern_table.proofs.Walks.{counted}
use Rattle.intern_table.proofs.Tabled.{seen_entries}
use Rattle.intern_table.proofs.table.Table.counts.Goals as goal

pub returns : goal.returns
returns g c = counted (λ n. n) kept_entry (λ r. refl) _ _ (seen_entries c.self.view_is) _ c.iter-entries.ensures
