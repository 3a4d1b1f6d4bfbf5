use Rattle.std.proofs.Common.{sym, subst}
use Rattle.intern_index.specs.Entries.{birth_at}
use Rattle.intern_index.specs.Ordered.{IsOrder, IsOrdered}
use Rattle.intern_index.proofs.Rows.{row_order}
use Rattle.intern_index.proofs.birth_order.BirthOrderBirths.make_room.Goals as goal

pub returns-in_ok-list_occupied-in-Some-2-clause-finds : goal.returns-in_ok-list_occupied-in-Some-2-clause-finds
returns-in_ok-list_occupied-in-Some-2-clause-finds g c =
    let in_row = subst (λ r. IsOrdered r c.args.self.now.places.items (birth_at c.args.slots.now)) c.in-Some-2.is c.requires.known in
    subst (λ places. IsOrder places (birth_at c.args.slots.now)) (sym c.in_ok-list_occupied-in-Some-2.ensures.places)
    (row_order c.args.slots.now c.in-Some-2.field-0.shift in_row)
