use Rattle.std.proofs.Common.{subst}
use Rattle.std.specs.Option.{option_map}
use Rattle.intern_store.specs.declared.names.Spot.{Spot}
use Rattle.intern_index.specs.Entries.{birth_at}
use Rattle.intern_index.specs.Ordered.{IsOrdered}
use Rattle.intern_index.proofs.Rows.{occupied, row_order, ranked_next, some_told}
use Rattle.intern_index.proofs.birth_order.BirthOrder.place.Goals as goal

pub returns-in-Some : goal.returns-in-Some
returns-in-Some g c =
    let s = c.args.slots.now in
    let in_row = subst (λ r. IsOrdered r c.args.self.now.places.items (birth_at s)) c.in-Some.is c.requires.known in
    record {
      places = occupied s;
      order = row_order s c.in-Some.field-0.shift in_row;
      ranked = λ within before.
          ranked_next s (some_told s c.requires.told) c.args.at (option_map (λ (s : Spot). s.place) c.args.before) within before c.place_after.result c.place_after.ensures c.next_occupied.result
          c.next_occupied.ensures.there c.next_occupied.ensures.from c.next_occupied.ensures.first c.next_occupied.ensures.none;
    }

pub returns-in-None : goal.returns-in-None
returns-in-None g c = record {
  places = c.args.self.now.places.items;
  order = subst (λ r. IsOrdered r c.args.self.now.places.items (birth_at c.args.slots.now)) c.in-None.is c.requires.known;
  ranked = λ within before. c.listed.ensures;
}
