use Rattle.std.proofs.Common.{Some, cond, ap, ◌∙◌}
use Rattle.queries.specs.Sheet.{formula_at}
use Rattle.queries.proofs.spreadsheet.Spreadsheet.set.Goals as goal

pub invariant_of-self-2 : goal.invariant_of-self-2
invariant_of-self-2 c =
    c.in_ok-raise.ensures.cache c.self.inside.sheet c.set.new.self c.self.invariant
    (λ p apart. c.in_ok-set.ensures.ok p
    ∙ ap (λ t. cond t (Some c.args.formula) (formula_at c.self.inside.sheet p)) apart)
