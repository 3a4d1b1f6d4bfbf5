use Rattle.std.proofs.Common.{sym, subst}
use Rattle.intern_index.specs.Ordered.{IsOrder, IsOrdered}
use Rattle.intern_index.proofs.Orders.{entered_order, no_row}
use Rattle.intern_index.proofs.birth_order.BirthOrderBirths.enter.Goals as goal

pub returns-then-is_none-clause-entered : goal.returns-then-is_none-clause-entered
returns-then-is_none-clause-entered c = λ old new order vacant below entered others.
    let none = no_row c.args.self.now.row c.if-is_none.ensures in
    subst (λ r. IsOrdered r c.push_reserved.new.self.items new) (sym none)
    (subst (λ places. IsOrder places new) (sym c.push_reserved.ensures.items)
    (entered_order _ old new (subst (λ r. IsOrdered r c.args.self.now.places.items old) none order) c.args.place c.args._birth vacant below entered others))
