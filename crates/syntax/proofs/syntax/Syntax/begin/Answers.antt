use Rattle.std.proofs.Common.{◌∙◌, sym, ap, not, rules}
use Rattle.syntax.specs.Lexeme.{lexeme}
use Rattle.syntax.specs.Machine.{opened}
use Rattle.syntax.proofs.Steps.{begun_atom, begun_opened, begun_none, on_unexpected, IsOther}
use Rattle.syntax.proofs.syntax.Syntax.begin.Goals as goal

pub returns-in_ok-begin_atom-in-Atom-clause-ok : goal.returns-in_ok-begin_atom-in-Atom-clause-ok
returns-in_ok-begin_atom-in-Atom-clause-ok c =
    let now = c.in_ok-begin_atom-in-Atom.ensures in
    begun_atom c.args.self.now.terms c.begin_atom.new.self.terms now.keeps c.args.machine.now
    c.begin_atom.new.machine c.in-Atom.name c.args.placed.token c.in-Atom.is now.items now.frames
    now.value (sym c.is_between_items-in_item.ensures ∙ c.if-in_item.true)

pub returns-in_ok-open-in-Some-clause-ok : goal.returns-in_ok-open-in-Some-clause-ok
returns-in_ok-open-in-Some-clause-ok c =
    let other : IsOther c.args.placed.token = search rules in
    begun_opened c.args.self.now.terms c.args.machine.now c.open.new.self c.args.placed.token other
    c.opened-opened.result c.in-Some.form
    (c.opened-opened.ensures
    ∙ ap (λ b. opened (lexeme c.args.placed.token) (not b)) c.is_between_items-in_item.ensures)
    c.in-Some.is c.requires c.in_ok-open-in-Some.ensures.items
    c.in_ok-open-in-Some.ensures.value c.in_ok-open-in-Some.ensures.frames

pub returns-in-None-clause-unexpected : goal.returns-in-None-clause-unexpected
returns-in-None-clause-unexpected c =
    let other : IsOther c.args.placed.token = search rules in
    on_unexpected c.refuse-in-None.result _ c.refuse-in-None.ensures (λ items os before.
    begun_none c.args.self.now.terms c.args.machine.now c.args.placed.token other c.opened-opened.result
    (c.opened-opened.ensures
    ∙ ap (λ b. opened (lexeme c.args.placed.token) (not b)) c.is_between_items-in_item.ensures)
    c.in-None.is items os before)
