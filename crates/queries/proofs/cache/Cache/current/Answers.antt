use Rattle.std.proofs.Common.{sym}
use Rattle.std.proofs.lemmas.Bool.{eqb-true}
use Rattle.ra_ap_intern.specs.Handle.{ref_name}
use Rattle.queries.specs.Evaluation.{IsRight}
use Rattle.queries.proofs.Memos.{fact_there, memo_right}
use Rattle.queries.proofs.cache.Cache.current.Goals as goal

pub returns-clause-right : goal.returns-clause-right
returns-clause-right c sheet key is read =
    fact_there (IsRight sheet key) c.then_some.result _ _ c.then_some.ensures (λ now.
    memo_right sheet _ _ (ref_name c.args.handle) _ key
    (is c.args.handle _ (sym c.in_ok-memo.ensures)) read (eqb-true _ _ now))
