use Rattle.std.proofs.Common.{◌∙◌}
use Rattle.intern_index.specs.Seen.{kept_entry}
use Rattle.intern_store.proofs.Maps.{read_seen}
use Rattle.intern_table.proofs.Tabled.{seen_entries}
use Rattle.intern_table.proofs.table.Table.get.Goals as goal

pub returns : goal.returns
returns g c = c.get.ensures ∙ read_seen kept_entry _ _ (seen_entries c.self.view_is) (λ e. e.value) c.args.spot.birth
