use Rattle.std.proofs.Common.{◌≡◌, ◌≤◌, length, map, sym, ◌∙◌, arith}
use Rattle.std.proofs.lemmas.Grind.{common_steps}
use Rattle.std.specs.Prelude.{IfErr}
use Rattle.intern_terms.specs.Handle.{term_name}
use Rattle.intern_terms.specs.Tree.{Trees}
use Rattle.syntax.specs.Lexeme.{lexemes}
use Rattle.syntax.specs.Parsing.{OnUnexpected}
use Rattle.syntax.specs.Printing.{AreItems, program_tokens}
use Rattle.syntax.proofs.Parsed.{run_first, run_next, run_stuck, run_whole, run_unfinished, drop_next, runs_out}
use Rattle.syntax.proofs.Reading.{keeps_itself, keeps_on}
use Rattle.syntax.proofs.RoundTrip.{read_again, not_refused}
use Rattle.syntax.proofs.Steps.{if_unexpected_more, on_unexpected}
use Rattle.syntax.proofs.syntax.Syntax.parse.Goals as goal

pub loop-placed-init : goal.loop-placed-init
loop-placed-init c = record {
  runs = run_first c.args.self.now.terms _ c.args.tokens.now c.new-machine.ensures.items
      c.new-machine.ensures.frames c.new-machine.ensures.value;
  keeps = keeps_itself c.args.self.now.terms;
}

pub loop-placed-preserved : goal.loop-placed-preserved
loop-placed-preserved c = record {
  runs = run_next _ _ _ _ _ _ _ _
      (drop_next c.args.tokens.now c.loop-placed.placed-index _ c.loop-placed-test.true)
      c.loop-placed.invariant.runs c.in_ok-step.ensures.ok;
  keeps = keeps_on _ _ _ c.loop-placed.invariant.keeps c.in_ok-step.ensures.keeps;
}

pub returns-else-is_whole-clause-unexpected : goal.returns-else-is_whole-clause-unexpected
returns-else-is_whole-clause-unexpected c =
    let all : length c.args.tokens.now ≤ c.loop-placed.placed-index = omega arith in
    on_unexpected c.unexpected.result _ c.unexpected.ensures
    (run_unfinished c.loop-placed.self.terms c.loop-placed.machine
    (lexemes c.args.tokens.now)
    (runs_out c.loop-placed.self.terms c.loop-placed.machine c.args.tokens.now
    c.loop-placed.placed-index all c.loop-placed.invariant.runs)
    (sym c.is_whole.ensures ∙ c.if-is_whole.false))

pub returns-in_err-step-clause-refused : goal.returns-in_err-step-clause-refused
returns-in_err-step-clause-refused c =
    let ls = lexemes c.args.tokens.now in
    let refused : IfErr c.step.result (λ stop. OnUnexpected stop ((items : Trees) →
    AreItems items → ls ≡ program_tokens items → ⊥)) =
    if_unexpected_more c.step.result _ _ (λ none items are same.
    not_refused ls items (run_stuck c.loop-placed.self.terms c.loop-placed.machine ls _ _ _
    (drop_next c.args.tokens.now c.loop-placed.placed-index _ c.loop-placed-test.true)
    c.loop-placed.invariant.runs none) are same) c.step.ensures.unexpected in
    grind (arith, common_steps)

pub returns-then-is_whole-clause-again : goal.returns-then-is_whole-clause-again
returns-then-is_whole-clause-again c names items stands are same =
    let s = c.loop-placed.self.terms in
    let ls = lexemes c.args.tokens.now in
    let all : length c.args.tokens.now ≤ c.loop-placed.placed-index = omega arith in
    let is = run_whole s c.loop-placed.machine ls (runs_out s c.loop-placed.machine
    c.args.tokens.now c.loop-placed.placed-index all c.loop-placed.invariant.runs)
    (sym c.is_whole.ensures ∙ c.if-is_whole.true) in
    read_again c.args.self.now.terms s c.loop-placed.invariant.keeps c.number-number.ensures.state
    ls (map term_name c.loop-placed.machine.items.items) names is.0 items is.1 is.2 stands are same

pub returns-else-is_whole-clause-refused : goal.returns-else-is_whole-clause-refused
returns-else-is_whole-clause-refused c =
    let all : length c.args.tokens.now ≤ c.loop-placed.placed-index = omega arith in
    on_unexpected c.unexpected.result _ c.unexpected.ensures (λ items are same.
    not_refused (lexemes c.args.tokens.now) items (run_unfinished c.loop-placed.self.terms
    c.loop-placed.machine (lexemes c.args.tokens.now) (runs_out c.loop-placed.self.terms
    c.loop-placed.machine c.args.tokens.now c.loop-placed.placed-index all
    c.loop-placed.invariant.runs) (sym c.is_whole.ensures ∙ c.if-is_whole.false)) are same)
