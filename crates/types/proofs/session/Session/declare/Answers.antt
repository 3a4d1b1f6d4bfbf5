use Rattle.std.proofs.Common.{subst, sym}
use Rattle.types.specs.Environment.{Declares}
use Rattle.types.specs.declared.infer.Inference.{Inference}
use Rattle.types.proofs.session.Session.declare.Goals as goal

pub returns-in_err-collect : goal.returns-in_err-collect
returns-in_err-collect c other t apart d = (c.collect.ensures other t).0 d

pub returns-in-Ok : goal.returns-in-Ok
returns-in-Ok c other t apart d =
    c.bind.ensures.others other t apart (c.infer.ensures.trees other t ((c.collect.ensures other t).0 d))

pub returns-in-Err : goal.returns-in-Err
returns-in-Err c other t apart d =
    subst (λ (i : Inference). Declares i.environment other t) (sym c.tell_failure.ensures)
    (c.infer.ensures.trees other t ((c.collect.ensures other t).0 d))
