use Rattle.std.proofs.Common.{rules, refl, sym, ◌≡◌, ◌++◌, ◌<◌, length, arith, string_bytes}
use Rattle.std.proofs.lemmas.Bool.Decides.{nat_tests}
use Rattle.intern_run.specs.Answers.{answers_from}
use Rattle.intern_run.specs.Lines.{lines}
use Rattle.intern_run.proofs.Written.{written_line, written_last, written_all}
use Rattle.intern_run.proofs.serve.answer_lines.Goals as goal

pub loop-line-init : goal.loop-line-init
loop-line-init c = (refl, c.utf8.text)

pub loop-line-preserved : goal.loop-line-preserved
loop-line-preserved c =
    let all = string_bytes c.args.out.now ++ answers_from c.args.session.now (lines c.args.text.now) in
    let parts = c.in-Some.ensures.byte (omega arith) (λ w o h. h) in (
      written_line all _ _ _ _ _ c.loop-line.invariant.0 c.in-Some.line.now c.in-Some.more.now parts.0 parts.1 parts.2
          c.in_ok-answer.ensures,
      search rules,
    )

pub returns-in_ok-answer-2 : goal.returns-in_ok-answer-2
returns-in_ok-answer-2 c =
    let all = string_bytes c.args.out.now ++ answers_from c.args.session.now (lines c.args.text.now) in
    let some : 0 < length c.loop-line.rest.now = grind (arith, nat_tests, c.if-not-is_empty.ensures) in
    sym (written_last all _ _ _ _ _ c.loop-line.invariant.0 (c.in_default.ensures.byte (omega arith) (λ w o h. h)) some
    c.in_ok-answer-2.ensures)

pub returns-else-not-is_empty : goal.returns-else-not-is_empty
returns-else-not-is_empty c =
    let all = string_bytes c.args.out.now ++ answers_from c.args.session.now (lines c.args.text.now) in
    let none : length c.loop-line.rest.now ≡ 0 = grind (arith, nat_tests, c.if-not-is_empty.ensures) in
    sym (written_all all _ (string_bytes c.loop-line.out) c.loop-line.session c.loop-line.session _
    c.loop-line.invariant.0 none)
