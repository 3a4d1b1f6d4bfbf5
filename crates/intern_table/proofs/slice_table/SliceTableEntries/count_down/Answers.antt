use Rattle.std.proofs.Common.{◌-◌, refl, ◌∙◌}
use Rattle.intern_index.proofs.Seen.{repaid_led, entries_repaid}
use Rattle.intern_table.proofs.Joins.{count_read, recount, changes_joined, changes_seen}
use Rattle.intern_table.proofs.Tabled.{seen_entries}
use Rattle.intern_table.proofs.slice_table.SliceTableEntries.count_down.Goals as goal

pub invariant_of-self : goal.invariant_of-self
invariant_of-self g c =
    record {
      joined = changes_joined g.A.NearItems.near_of _ _ c.self.invariant.joined (λ n. n - 1) _ (seen_entries c.self.view_is) c.args.spot.birth _ (entries_repaid _ _ _ _ c.change.ensures.state);
      led = repaid_led _ (recount (λ n. n - 1)) (λ v p. refl) _ _ c.args.spot.birth c.change.ensures.state c.self.invariant.led;
    }

pub returns-clause-count : goal.returns-clause-count
returns-clause-count g c = c.count_of.ensures ∙ count_read g.A.NearItems.near_of _ _ _ (seen_entries c.self.view_is) c.args.spot.birth _ c.change.ensures.payload

pub returns-clause-state : goal.returns-clause-state
returns-clause-state g c =
    changes_seen g.A.NearItems.near_of _ _ c.self.invariant.joined (λ n. n - 1) _ (seen_entries c.self.view_is) c.args.spot.birth _ (entries_repaid _ _ _ _ c.change.ensures.state)
