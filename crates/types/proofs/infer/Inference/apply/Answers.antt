use Rattle.std.proofs.Common.{subst, sym}
use Rattle.types.specs.Growing.{Grows}
use Rattle.types.proofs.infer.Inference.apply.Goals as goal

pub returns-in_err-unify-2 : goal.returns-in_err-unify-2
returns-in_err-unify-2 c =
    subst (Grows c.args.self.now.environment) (sym c.unify-2.ensures)
    (c.fresh.ensures.0, λ n v read. c.function.ensures.stays n v (c.fresh.ensures.1 n v read))

pub returns : goal.returns
returns c =
    subst (Grows c.args.self.now.environment) (sym c.unify-2.ensures)
    (c.fresh.ensures.0, λ n v read. c.function.ensures.stays n v (c.fresh.ensures.1 n v read))
