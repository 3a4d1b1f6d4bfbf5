use Rattle.std.proofs.Common.{ap, ◌∙◌}
use Rattle.std.specs.FinMap.{insert}
use Rattle.intern_index.specs.Seen.{kept_entry}
use Rattle.intern_store.proofs.Maps.{all_below}
use Rattle.intern_index.proofs.Seen.{ok_then}
use Rattle.intern_store.proofs.Maps.{map_values-insert}
use Rattle.intern_table.proofs.Tabled.{seen_entries}
use Rattle.intern_table.proofs.table.TableTakes.insert.Goals as goal

pub insert-requires-clause-fresh : goal.insert-requires-clause-fresh
insert-requires-clause-fresh g c = all_below kept_entry _ _ (seen_entries c.self.view_is) c.args.birth c.requires.above

pub returns-clause-ok : goal.returns-clause-ok
returns-clause-ok g c =
    ok_then c.insert.result
    (λ p added. map_values-insert kept_entry _ _ c.args.birth _ added ∙ ap (λ m. insert m c.args.birth (record { value = g.O.Offer.value c.args.offer; count = c.args.count })) (seen_entries c.self.view_is))
    c.insert.ensures.ok
