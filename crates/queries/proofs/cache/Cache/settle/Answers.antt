use Rattle.std.proofs.Common.{ap, refl, sym, subst}
use Rattle.ra_ap_intern.specs.Handle.{ref_name}
use Rattle.queries.specs.Path.{IsFrame}
use Rattle.queries.proofs.Paths.{settled, settled_memo}
use Rattle.queries.proofs.Steps.{settled_put}
use Rattle.queries.proofs.cache.Cache.settle.Goals as goal

pub returns-clause-value : goal.returns-clause-value
returns-clause-value c =
    settled c.args.sheet.now _ c.args.frame.now _ c.requires.frame c.requires.complete
    c.in_ok-value.ensures.given

pub returns-in_err-put-clause-cache : goal.returns-in_err-put-clause-cache
returns-in_err-put-clause-cache c =
    c.put.ensures.cache c.args.sheet.now c.in_ok-value.ensures.cache
    (settled_memo c.args.sheet.now _ _ c.args.frame.now c.in_ok-value.value _
    (subst (λ keys. IsFrame c.args.sheet.now keys c.args.frame.now) (sym c.in_ok-value.ensures.keys) c.requires.frame)
    c.requires.complete c.in_ok-value.ensures.given refl (ap (λ v. v.items) c.replace-values.ensures.value) refl)

pub returns-clause-cache : goal.returns-clause-cache
returns-clause-cache c =
    c.put.ensures.cache c.args.sheet.now c.in_ok-value.ensures.cache
    (settled_memo c.args.sheet.now _ _ c.args.frame.now c.in_ok-value.value _
    (subst (λ keys. IsFrame c.args.sheet.now keys c.args.frame.now) (sym c.in_ok-value.ensures.keys) c.requires.frame)
    c.requires.complete c.in_ok-value.ensures.given refl (ap (λ v. v.items) c.replace-values.ensures.value) refl)

pub returns-clause-settled : goal.returns-clause-settled
returns-clause-settled c =
    let given = c.in_ok-value.ensures in
    settled_put c.args.self.now c.given.new.self c.put.new.self (ref_name c.args.frame.now.handle) _ given.keys
    given.memos given.revision c.put.ensures.keys c.put.ensures.revision c.in_ok-put.ensures.memos refl
