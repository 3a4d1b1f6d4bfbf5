use Rattle.std.proofs.Common.{◌≡◌, [], drop, reverse}
use Rattle.queries.specs.Formula.{run}
use Rattle.queries.proofs.formula.formula_value.Given as goal

-- the steps that are left give the value
abbrev pub invariant-loop-step : goal.invariant-loop-step
invariant-loop-step l =
    run l.values (drop l.step-index l.steps) (reverse l.stack.items) ≡ run l.values l.steps []
