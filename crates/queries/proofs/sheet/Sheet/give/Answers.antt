use Rattle.std.proofs.Common.{◌≡◌, Some, None, ap, ◌∙◌}
use Rattle.std.proofs.lemmas.Result.{IfOk-weaker}
use Rattle.queries.specs.Formula.{formula_of}
use Rattle.queries.specs.Sheet.{gives}
use Rattle.queries.proofs.Equal.{places_alike}
use Rattle.queries.proofs.Sheets.{found_at, cell_gives}
use Rattle.queries.proofs.sheet.Sheet.give.Goals as goal

pub returns-in-Some : goal.returns-in-Some
returns-in-Some c =
    let found = found_at _ places_alike _ c.args.self.now c.self.view_is
    c.in-Cell.place (Some c.in-Some.formula.now) c.in-Some.ensures.value in
    IfOk-weaker c.formula_value.result (λ value. value ≡ formula_of c.steps.result.now c.args.values.now)
    (λ value. value ≡ gives c.args.self.now c.args.key c.args.values.now)
    (λ value is. is ∙ ap (λ steps. formula_of steps c.args.values.now) c.steps.ensures
    ∙ cell_gives c.args.self.now c.in-Cell.place c.args.key c.in-Cell.is _ found _)
    c.formula_value.ensures

pub returns-in-None : goal.returns-in-None
returns-in-None c =
    cell_gives c.args.self.now c.in-Cell.place c.args.key c.in-Cell.is None
    (found_at _ places_alike _ c.args.self.now c.self.view_is
    c.in-Cell.place None c.in-None.ensures.value) _
