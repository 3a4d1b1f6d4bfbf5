use Rattle.std.proofs.Common.{ℕ, ap, ◌∙◌}
use Rattle.std.specs.FinMap.{remove}
use Rattle.intern_index.specs.IndexEntry.{Indexed}
use Rattle.intern_index.specs.Seen.{kept_entry}
use Rattle.intern_store.proofs.Maps.{read_seen}
use Rattle.intern_index.proofs.Seen.{removed_led}
use Rattle.intern_store.proofs.Maps.{map_values-remove}
use Rattle.intern_table.proofs.Tabled.{seen_entries}
use Rattle.intern_table.proofs.table.TableRemoves.remove.Goals as goal

pub invariant_of-self : goal.invariant_of-self
invariant_of-self g c = removed_led _ _ _ c.args.spot.birth c.self.invariant c.remove.ensures.removed

pub returns-clause-value : goal.returns-clause-value
returns-clause-value g c = c.remove.ensures.value ∙ read_seen kept_entry _ _ (seen_entries c.self.view_is) (λ e. e.value) c.args.spot.birth

pub returns-clause-removed : goal.returns-clause-removed
returns-clause-removed g c =
    map_values-remove kept_entry _ _ c.args.spot.birth (ap (λ (i : Indexed g.row.T.Denot ℕ). i.entries) c.remove.ensures.removed) ∙ ap (λ m. remove m c.args.spot.birth) (seen_entries c.self.view_is)
