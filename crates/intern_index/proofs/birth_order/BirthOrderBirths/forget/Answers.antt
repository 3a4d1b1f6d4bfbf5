use Rattle.std.proofs.Common.{◌≡◌, Option, Some, None, is_some, refl, sym, subst}
use Rattle.std.specs.Option.{option_map}
use Rattle.intern_index.specs.Entries.{birth_at}
use Rattle.intern_index.specs.Ordered.{IsOrder, IsOrdered, is_occupied}
use Rattle.intern_index.proofs.Orders.{left_order, no_row}
use Rattle.intern_index.proofs.birth_order.BirthOrderBirths.forget.Goals as goal

mapped : {X Y : Type 0} (f : X → Y) (o : Option X) → is_some o ≡ is_some (option_map f o)
mapped f None = refl
mapped f (Some x) = refl

pub returns-then-is_none : goal.returns-then-is_none
returns-then-is_none g c = λ old order was.
    let none = no_row c.args.self.now.row c.if-is_none.ensures in
    subst (λ r. IsOrdered r c.keep_occupied.new.places.items (birth_at c.args.slots.now)) (sym none)
    (subst (λ places. IsOrder places (birth_at c.args.slots.now)) (sym c.keep_occupied.ensures)
    (left_order _ old (birth_at c.args.slots.now) (subst (λ r. IsOrdered r c.args.self.now.places.items old) none order) was (is_occupied c.args.slots.now) (λ p. mapped _ _)))
