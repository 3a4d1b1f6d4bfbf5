use Rattle.std.proofs.Common.{ℕ, ap, ◌∙◌}
use Rattle.std.specs.FinMap.{retain_keys}
use Rattle.intern_index.specs.IndexEntry.{Indexed}
use Rattle.intern_index.specs.Seen.{kept_entry}
use Rattle.intern_index.proofs.Seen.{retained_led}
use Rattle.intern_store.proofs.Maps.{map_values-retain}
use Rattle.intern_table.proofs.Tabled.{seen_entries}
use Rattle.intern_table.proofs.table.TableSweeps.keep.Goals as goal

pub invariant_of-self : goal.invariant_of-self
invariant_of-self g c = retained_led _ _ _ (g.M.Keeps.marked c.args.marks.now) c.self.invariant c.keep.ensures

pub returns-clause-kept : goal.returns-clause-kept
returns-clause-kept g c =
    map_values-retain kept_entry _ _ (g.M.Keeps.marked c.args.marks.now) (ap (λ (i : Indexed g.row.T.Denot ℕ). i.entries) c.keep.ensures) ∙ ap (λ m. retain_keys m (g.M.Keeps.marked c.args.marks.now)) (seen_entries c.self.view_is)
