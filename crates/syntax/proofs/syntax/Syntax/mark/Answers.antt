use Rattle.std.proofs.Common.{◌≡◌, ◌∙◌, ◌&&◌, ◌++◌, ◌∷◌, [], ap, sym, length, rules}
use Rattle.syntax.specs.Frames.{shape_of}
use Rattle.syntax.specs.Machine.{closes_item, completed}
use Rattle.syntax.proofs.Reading.{item_stands}
use Rattle.syntax.proofs.Steps.{marked_part, marked_closed, marked_item, marked_refused, on_unexpected}
use Rattle.syntax.proofs.syntax.Syntax.mark.Goals as goal

pub returns-in_ok-push_part-clause-ok : goal.returns-in_ok-push_part-clause-ok
returns-in_ok-push_part-clause-ok c =
    let same : c.len-parts.result ≡ length c.in-Some.frame.parts.items = search rules in
    marked_part c.args.self.now.terms c.args.machine.now c.push_part.new.self
    c.pop.new.self.items c.in-Some.frame c.args.value c.args.mark c.len-parts.result
    c.in-Some.ensures.items same (sym c.separates.ensures ∙ c.if-separates.true)
    c.in_ok-push_part.ensures.items c.in_ok-push_part.ensures.value
    c.in_ok-push_part.ensures.frames

pub returns-in_ok-complete-clause-ok : goal.returns-in_ok-complete-clause-ok
returns-in_ok-complete-clause-ok c =
    let same : c.len-parts.result ≡ length c.in-Some.frame.parts.items = search rules in
    marked_closed c.args.self.now.terms c.complete.new.self.terms c.in_ok-complete.ensures.keeps
    c.args.machine.now _ c.pop.new.self.items c.in-Some.frame c.args.value c.args.mark
    c.len-parts.result c.in-Some.ensures.items same (sym c.separates.ensures ∙ c.if-separates.false)
    (sym c.closes.ensures ∙ c.if-closes.true) c.in_ok-complete.ensures.items
    (ap (λ v. v.items) c.in_ok-complete.ensures.frames) c.in_ok-complete.ensures.completed

pub returns-in_ok-push_item-clause-ok : goal.returns-in_ok-push_item-clause-ok
returns-in_ok-push_item-clause-ok c =
    let same : c.len-parts.result ≡ length c.in-Some.frame.parts.items = search rules in
    marked_item c.args.self.now.terms c.complete-then-closes_item.new.self.terms c.in_ok-item.ensures.keeps
    c.args.machine.now c.push_item.new.self c.pop.new.self.items c.in-Some.frame c.args.value
    c.args.mark c.len-parts.result c.in-Some.ensures.items same
    (sym c.separates.ensures ∙ c.if-separates.false) (sym c.closes.ensures ∙ c.if-closes.false)
    (ap (λ e. closes_item (shape_of c.in-Some.frame.form) c.len-parts.result c.args.mark && e)
    (sym c.is_between_items-is_outermost.ensures)
    ∙ sym c.closes_item.ensures ∙ c.if-closes_item.true)
    (ap (λ v. v.items) (c.in_ok-push_item.ensures.frames ∙ c.in_ok-item.ensures.frames))
    c.in_ok-push_item.ensures.value (λ items o t stand is unfolds.
    item_stands c.args.self.now.terms c.complete-then-closes_item.new.self.terms c.in_ok-item.ensures.keeps
    c.args.machine.now.items.items c.push_item.new.self.items.items c.in_ok-item.item
    (c.in_ok-push_item.ensures.items
    ∙ ap (λ v. v.items ++ c.in_ok-item.item ∷ []) c.in_ok-item.ensures.items)
    items (completed o t) stand (c.in_ok-item.ensures.completed o t is unfolds))

pub returns-else-closes_item-clause-unexpected : goal.returns-else-closes_item-clause-unexpected
returns-else-closes_item-clause-unexpected c =
    let same : c.len-parts.result ≡ length c.in-Some.frame.parts.items = search rules in
    on_unexpected c.refuse-refused.result _ c.refuse-refused.ensures (λ items os t before unfolds.
    marked_refused c.args.self.now.terms c.args.machine.now
    c.pop.new.self.items c.in-Some.frame c.args.mark c.len-parts.result
    c.in-Some.ensures.items same (sym c.separates.ensures ∙ c.if-separates.false)
    (sym c.closes.ensures ∙ c.if-closes.false)
    (ap (λ e. closes_item (shape_of c.in-Some.frame.form) c.len-parts.result c.args.mark
    && e) (sym c.is_between_items-is_outermost.ensures)
    ∙ sym c.closes_item.ensures ∙ c.if-closes_item.false)
    items os t before)
