use Rattle.std.proofs.Common.{◌≡◌, ◌+◌, suc, sym, ap, ◌∙◌, arith}
use Rattle.intern_index.specs.IndexEntry.{spot_before}
use Rattle.intern_table.proofs.Moves.{as_many, same_spot, same_before, is_left, next, laid_now, same_now, covered_now}
use Rattle.intern_table.proofs.pool.compact.Goals as goal

pub nth-requires-clause-within : goal.nth-requires-clause-within
nth-requires-clause-within g c = let many = as_many g.A.NearItems.near_of _ _ _ _ _ _ c.requires c.loop-at.invariant.moved in omega arith

pub nth-requires-clause-before : goal.nth-requires-clause-before
nth-requires-clause-before g c = c.loop-at.invariant.last ∙ sym (same_before g.A.NearItems.near_of _ _ _ _ _ _ c.requires c.loop-at.invariant.moved c.loop-at.at)

pub unreachable-requires : goal.unreachable-requires
unreachable-requires g c =
    let left = is_left g.A.NearItems.near_of _ _ _ _ _ _ c.requires c.loop-at.invariant.moved (omega arith) (λ r. r.0) c.nth.result c.nth.ensures.spot in
    c.in_default.not-Some left.0 left.1

pub overflow_add-start : goal.overflow_add-start
overflow_add-start g c =
    let w = next g.A.NearItems.near_of _ _ _ _ _ _ c.requires c.loop-at.invariant.moved c.in-Some.spot (record { place = c.in-Some.spot.place; value = c.in-Some.row.now; payload = c.in-Some.payload }) c.in-Some.ensures.spot c.in-Some.ensures.entry in
    omega (arith, w.1, c.far_length-far.ensures, c.get-start.ensures, c.loop-at.items.ok.0, c.loop-at.items.small)

pub copy_within-requires-clause-in_bounds : goal.copy_within-requires-clause-in_bounds
copy_within-requires-clause-in_bounds g c =
    let w = next g.A.NearItems.near_of _ _ _ _ _ _ c.requires c.loop-at.invariant.moved c.in-Some.spot (record { place = c.in-Some.spot.place; value = c.in-Some.row.now; payload = c.in-Some.payload }) c.in-Some.ensures.spot c.in-Some.ensures.entry in
    omega (arith, w.1, c.far_length-far.ensures, c.get-start.ensures, c.loop-at.items.ok.0)

pub copy_within-requires-clause-dest_in_bounds : goal.copy_within-requires-clause-dest_in_bounds
copy_within-requires-clause-dest_in_bounds g c =
    let w = next g.A.NearItems.near_of _ _ _ _ _ _ c.requires c.loop-at.invariant.moved c.in-Some.spot (record { place = c.in-Some.spot.place; value = c.in-Some.row.now; payload = c.in-Some.payload }) c.in-Some.ensures.spot c.in-Some.ensures.entry in
    omega (arith, w.0, w.1, c.far_length-far.ensures, c.get-start.ensures, c.loop-at.items.ok.0)

pub overflow_add-end : goal.overflow_add-end
overflow_add-end g c =
    let w = next g.A.NearItems.near_of _ _ _ _ _ _ c.requires c.loop-at.invariant.moved c.in-Some.spot (record { place = c.in-Some.spot.place; value = c.in-Some.row.now; payload = c.in-Some.payload }) c.in-Some.ensures.spot c.in-Some.ensures.entry in
    omega (arith, w.0, w.1, c.far_length-far.ensures, c.get-start.ensures, c.loop-at.items.ok.0, c.loop-at.items.small)

pub loop-at-preserved : goal.loop-at-preserved
loop-at-preserved g c =
    rw (c.change.ensures.state, c.copy_within.ensures.items, c.far_length-far.ensures, c.get-start.ensures) (record {
      moved = (next g.A.NearItems.near_of _ _ _ _ _ _ c.requires c.loop-at.invariant.moved c.in-Some.spot (record { place = c.in-Some.spot.place; value = c.in-Some.row.now; payload = c.in-Some.payload }) c.in-Some.ensures.spot c.in-Some.ensures.entry).2;
      last =
          let next : c.loop-at.at + 1 ≡ suc c.loop-at.at = omega arith in
          c.in-Some.ensures.spot ∙ same_spot g.A.NearItems.near_of _ _ _ _ _ _ c.requires c.loop-at.invariant.moved ∙ ap (spot_before c.args.index.now.entries) (sym next);
      buckets = c.loop-at.invariant.buckets;
    })

pub returns-clause-laid : goal.returns-clause-laid
returns-clause-laid g c = laid_now g.A.NearItems.near_of _ _ _ _ _ _ c.requires c.loop-at.invariant.moved (omega (arith, c.loop-at.auto.at-end)) _ c.truncate.ensures.items

pub returns-clause-same : goal.returns-clause-same
returns-clause-same g c = same_now g.A.NearItems.near_of _ _ _ _ _ _ c.requires c.loop-at.invariant.moved (omega (arith, c.loop-at.auto.at-end)) _ c.truncate.ensures.items

pub returns-clause-full : goal.returns-clause-full
returns-clause-full g c = covered_now g.A.NearItems.near_of _ _ _ _ _ _ c.requires c.loop-at.invariant.moved (omega (arith, c.loop-at.auto.at-end)) _ c.truncate.ensures.items
