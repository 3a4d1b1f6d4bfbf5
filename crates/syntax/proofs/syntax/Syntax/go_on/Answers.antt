use Rattle.std.proofs.Common.{◌≡◌, None}
use Rattle.std.proofs.lemmas.Result.{on_ok_weaker}
use Rattle.syntax.specs.Parsing.{Reaches}
use Rattle.syntax.proofs.Steps.{gone_between, gone_marked, if_unexpected_more}
use Rattle.syntax.proofs.syntax.Syntax.go_on.Goals as goal

pub returns-in_ok-open_infix-in-Infix-clause-ok : goal.returns-in_ok-open_infix-in-Infix-clause-ok
returns-in_ok-open_infix-in-Infix-clause-ok c items os t before unfolds =
    gone_between c.args.self.now.terms c.reduce.new.self.terms c.in_ok-left-in-Infix.ensures.keeps
    c.args.machine.now c.reduce.new.machine c.open_infix.new.self c.in-Infix.operator
    c.args.placed.token c.in-Infix.is c.in_ok-left-in-Infix.left c.in_ok-left-in-Infix.ensures.items
    c.in_ok-open_infix-in-Infix.ensures.items c.in_ok-open_infix-in-Infix.ensures.value
    c.in_ok-open_infix-in-Infix.ensures.frames items os t before
    (c.in_ok-left-in-Infix.ensures.reduced os t before.opens unfolds)

pub returns-in_ok-whole-in-Mark-clause-ok : goal.returns-in_ok-whole-in-Mark-clause-ok
returns-in_ok-whole-in-Mark-clause-ok c =
    on_ok_weaker c.mark.result (λ goes items os t before unfolds.
    gone_marked c.args.self.now.terms c.reduce-in-Mark.new.self.terms c.in_ok-whole-in-Mark.ensures.keeps
    c.args.machine.now c.reduce-in-Mark.new.machine c.in-Mark.mark c.args.placed.token
    c.in-Mark.is c.in_ok-whole-in-Mark.whole c.in_ok-whole-in-Mark.ensures.items
    (λ next. Reaches c.mark.new.self.terms c.mark.new.machine next) goes items os t before
    (c.in_ok-whole-in-Mark.ensures.reduced os t before.opens unfolds))
    c.mark.ensures.ok

pub returns-in_ok-whole-in-Mark-clause-unexpected :
    goal.returns-in_ok-whole-in-Mark-clause-unexpected
returns-in_ok-whole-in-Mark-clause-unexpected c =
    if_unexpected_more c.mark.result _ _ (λ goes items os t before unfolds.
    gone_marked c.args.self.now.terms c.reduce-in-Mark.new.self.terms c.in_ok-whole-in-Mark.ensures.keeps
    c.args.machine.now c.reduce-in-Mark.new.machine c.in-Mark.mark c.args.placed.token
    c.in-Mark.is c.in_ok-whole-in-Mark.whole c.in_ok-whole-in-Mark.ensures.items
    (λ next. next ≡ None) goes items os t before
    (c.in_ok-whole-in-Mark.ensures.reduced os t before.opens unfolds))
    c.mark.ensures.unexpected
