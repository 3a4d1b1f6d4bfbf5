use Rattle.std.proofs.Common.{◌-◌, refl, ◌∙◌}
use Rattle.intern_index.specs.Seen.{kept_entry}
use Rattle.intern_store.proofs.Maps.{read_seen}
use Rattle.intern_index.proofs.Seen.{repaid_led, changed_seen, entries_repaid}
use Rattle.intern_table.proofs.Tabled.{seen_entries}
use Rattle.intern_table.proofs.table.TableEntries.count_down.Goals as goal

pub invariant_of-self : goal.invariant_of-self
invariant_of-self g c =
    repaid_led _ (λ n. n - 1) (λ v n. refl) _ _ c.args.spot.birth c.change.ensures.state c.self.invariant

pub returns-clause-count : goal.returns-clause-count
returns-clause-count g c = c.change.ensures.payload ∙ read_seen kept_entry _ _ (seen_entries c.self.view_is) (λ e. e.count) c.args.spot.birth

pub returns-clause-state : goal.returns-clause-state
returns-clause-state g c =
    changed_seen kept_entry (λ n. n - 1) (λ n. n - 1) (λ r. refl) _ _ _ c.args.spot.birth (seen_entries c.self.view_is) (entries_repaid _ _ _ _ c.change.ensures.state)
