use Rattle.std.proofs.Common.{Ok, Err, get_or, ap, sym, subst, ◌∙◌, rules}
use Rattle.std.proofs.lemmas.Fn.{always_returns_same}
use Rattle.intern_index.specs.Entries.{birth_at}
use Rattle.intern_index.specs.Ordered.{IsOrder, IsOrdered, birth_or_zero}
use Rattle.intern_index.proofs.Orders.{searched, at_index}
use Rattle.intern_index.proofs.birth_order.BirthOrderBirths.find.Goals as goal

pub returns-in-Ok-clause-found : goal.returns-in-Ok-clause-found
returns-in-Ok-clause-found g c =
    let order = subst (λ places. IsOrder places (birth_at c.args.slots.now)) (sym c.deref.ensures.value) (subst (λ r. IsOrdered r c.args.self.now.places.items (birth_at c.args.slots.now)) c.in_default.is c.requires.known) in
    let found = (searched c.deref.result.now (birth_at c.args.slots.now) order c.args.birth (Ok c.in-Ok.at) c.in-Ok.ensures.bound
    (c.in-Ok.ensures.position (λ p. birth_or_zero (birth_at c.args.slots.now p)) (always_returns_same _ _ _ (λ a r f called. (search rules, search rules))))).found in
    ap (birth_at c.args.slots.now)
    (c.index.ensures ∙ ap (λ xs. get_or xs c.in-Ok.at c.index.result.now) (sym c.deref.ensures.value) ∙ at_index _ c.in-Ok.at _ c.in-Ok.ensures.bound) ∙ found

pub returns-in-Err-clause-absent : goal.returns-in-Err-clause-absent
returns-in-Err-clause-absent g c =
    let order = subst (λ places. IsOrder places (birth_at c.args.slots.now)) (sym c.deref.ensures.value) (subst (λ r. IsOrdered r c.args.self.now.places.items (birth_at c.args.slots.now)) c.in_default.is c.requires.known) in
    (searched c.deref.result.now (birth_at c.args.slots.now) order c.args.birth (Err c.in-Err.field-0) c.in-Err.ensures.bound
    (c.in-Err.ensures.position (λ p. birth_or_zero (birth_at c.args.slots.now p)) (always_returns_same _ _ _ (λ a r f called. (search rules, search rules))))).absent
