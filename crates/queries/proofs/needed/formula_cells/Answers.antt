use Rattle.std.proofs.Common.{Contains, sym, subst}
use Rattle.std.proofs.lemmas.Option.{slice_get-get_or}
use Rattle.queries.proofs.Equal.{keys_alike}
use Rattle.queries.proofs.Needs.{cells_all, cells_more, inserts, no_cells}
use Rattle.queries.proofs.needed.formula_cells.Goals as goal

pub loop-place-init : goal.loop-place-init
loop-place-init c = no_cells c.new-cells.result.keys c.new-cells.ensures.empty

pub loop-place-preserved : goal.loop-place-preserved
loop-place-preserved c =
    cells_more c.deref-place-items.result.now c.loop-place.place-index _
    (slice_get-get_or _ _ _ c.loop-place-test.true) _ _ c.loop-place.invariant
    (inserts _ keys_alike _ _ _ c.in_ok-insert.ensures.keys)

pub returns : goal.returns
returns c key =
    let all = cells_all c.deref-place-items.result.now _ _ c.loop-place-test.false c.loop-place.invariant in
    let same = c.deref-place-items.ensures.value in
    let told = c.in_ok-places.ensures.cells in (
      λ in'. let of = (all key).0 in' in
          (of.0, of.1, (told of.0).0 (subst (λ ps. Contains ps of.0) same of.2)),
      λ of. (all key).1 (of.0, of.1, subst (λ ps. Contains ps of.0) (sym same) ((told of.0).1 of.2)),
    )
