use Rattle.std.proofs.Common.{IfOk, ap, subst}
use Rattle.std.proofs.lemmas.Result.{IfOk-weaker}
use Rattle.queries.specs.declared.key.Key.TheVariants.{Cell}
use Rattle.queries.specs.Evaluation.{IsRight, Answers}
use Rattle.queries.proofs.Paths.{right_answers}
use Rattle.queries.proofs.spreadsheet.Spreadsheet.answer.Goals as goal

pub returns-clause-answer : goal.returns-clause-answer
returns-clause-answer c =
    let key = Cell c.args.place in
    IfOk-weaker c.answer.result (IsRight c.args.self.now.sheet key)
    (Answers c.args.self.now.sheet key) (right_answers c.args.self.now.sheet key)
    (subst (λ sheet. IfOk c.answer.result (IsRight sheet key)) (ap (λ b. b.sheet) c.self.view_is) c.answer.ensures.right)
