use Rattle.std.proofs.Common.{None, cond, ap, ◌∙◌}
use Rattle.queries.specs.Sheet.{formula_at}
use Rattle.queries.proofs.spreadsheet.Spreadsheet.clear.Goals as goal

pub invariant_of-self-2 : goal.invariant_of-self-2
invariant_of-self-2 c =
    c.in_ok-raise.ensures.cache c.self.inside.sheet c.clear.new.self c.self.invariant
    (λ p apart. c.clear.ensures p ∙ ap (λ t. cond t None (formula_at c.self.inside.sheet p)) apart)
