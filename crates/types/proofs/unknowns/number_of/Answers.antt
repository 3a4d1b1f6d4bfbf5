use Rattle.std.proofs.Common.{◌∙◌, sym}
use Rattle.types.proofs.Unifying.{no_unknown_at}
use Rattle.types.proofs.unknowns.number_of.Goals as goal

pub returns-in_default-clause-none : goal.returns-in_default-clause-none
returns-in_default-clause-none c =
    no_unknown_at c.args.types.now _ c.in_ok-number.field-0 (sym c.get.ensures ∙ c.in_ok-number.was) c.in_default.not-Unknown
