use Rattle.std.proofs.Common.{◌≡◌, Decides, sym, subst, ◌∙◌}
use Rattle.std.proofs.lemmas.Option.{same_Some}
use Rattle.std.proofs.lemmas.Slice.Eq.{slice_eq-Decides}
use Rattle.ra_ap_intern.specs.Handle.{ref_name}
use Rattle.queries.specs.Sheet.{gives}
use Rattle.queries.specs.declared.cache.Memo.{Memo}
use Rattle.queries.proofs.Equal.{values_alike}
use Rattle.queries.proofs.Memos.{fact_there, is_there, memo_given}
use Rattle.queries.proofs.cache.Cache.unchanged.Goals as goal

pub returns-in-Value-clause-right : goal.returns-in-Value-clause-right
returns-in-Value-clause-right c sheet is read =
    let frame = c.args.frame.now in
    let memo = c.in_ok-memo.memo.now in
    let same : Decides c.eq.result (memo.values.items ≡ frame.values.items) =
    slice_eq-Decides values_alike memo.values.items
    frame.values.items c.eq.result c.eq.ensures in
    fact_there (λ value. value ≡ gives sheet frame.key frame.values.items) c.then_some.result
    c.eq.result c.in-Value.value c.then_some.ensures (λ yes.
    memo_given sheet _ _ (ref_name frame.handle) memo frame.key
    (is frame.handle _ (sym c.in_ok-memo.ensures)) read c.in-Value.value c.in-Value.is _ (same.0 yes))

pub returns-in-Value-clause-known : goal.returns-in-Value-clause-known
returns-in-Value-clause-known c =
    let frame = c.args.frame.now in
    let memo = c.in_ok-memo.memo.now in
    let same : Decides c.eq.result (memo.values.items ≡ frame.values.items) =
    slice_eq-Decides values_alike memo.values.items
    frame.values.items c.eq.result c.eq.ensures in
    let there = is_there c.then_some.result c.eq.result c.in-Value.value c.then_some.ensures in (
      λ some. (memo, sym c.in_ok-memo.ensures, c.in-Value.value, c.in-Value.is, same.0 (sym there ∙ some)),
      λ given.
          let one : given.0 ≡ memo = same_Some _ _ (sym given.1 ∙ sym c.in_ok-memo.ensures) in
          there ∙ same.1 (subst (λ (m : Memo). m.values.items ≡ frame.values.items) one given.4),
    )
