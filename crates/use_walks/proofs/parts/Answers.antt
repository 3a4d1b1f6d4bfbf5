use Rattle.std.proofs.Common.{◌≡◌, [], ◌∷◌, map, sym, ap, rules}
use Rattle.ra_ap_intern.specs.Handle.{ref_name}
use Rattle.ra_ap_intern.proofs.CallerLemmas.{walk_unread, walk_again, walk_on, turns_on, walk_ended}
use Rattle.use_types.specs.Types.{declared_by}
use Rattle.use_walks.proofs.parts.Goals as goal

-- what isn't read is passed over
pub loop-next-preserved-in_default-get : goal.loop-next-preserved-in_default-get
loop-next-preserved-in_default-get c =
    walk_unread declared_by c.args.types.now _ _ _ _ c.in-Some.next c.in-Some.ensures.items
    (sym c.in_default-get.ensures) c.loop-next.invariant

-- and so is what was met
pub loop-next-preserved : goal.loop-next-preserved
loop-next-preserved c =
    walk_again declared_by c.args.types.now _ c.references_are_names.ensures.equal _ _ _ _ c.in-Some.next _
    c.in-Some.ensures.items c.in_ok-insert.ensures.added c.in_ok-insert.ensures.keys _ c.if-branch.false
    c.loop-next.invariant

-- what is met for the first time has its parts ahead
pub loop-next-preserved-in-Continue-branch-3 : goal.loop-next-preserved-in-Continue-branch-3
loop-next-preserved-in-Continue-branch-3 c =
    walk_on declared_by c.args.types.now _ c.references_are_names.ensures.equal _ _ _ _ c.in-Some.next _
    c.in-Some.ensures.items c.in_ok-insert.ensures.added c.in_ok-insert.ensures.keys c.if-branch.true _
    c.in-Some-get.node.now _ (sym c.in-Some-get.ensures) c.in_ok-add_parts.ensures c.loop-next.invariant

pub loop-next-smaller-in-Continue-branch-3 : goal.loop-next-smaller-in-Continue-branch-3
loop-next-smaller-in-Continue-branch-3 c =
    turns_on declared_by c.args.types.now _ c.references_are_names.ensures.equal _ _ _ _ c.in-Some.next _
    c.in-Some.ensures.items c.in_ok-insert.ensures.added c.in_ok-insert.ensures.keys c.if-branch.true
    c.in-Some-get.node.now _ (sym c.in-Some-get.ensures) c.in_ok-add_parts.ensures

pub returns : goal.returns
returns c =
    let none : c.loop-next.ahead.items ≡ [] = search rules in
    walk_ended declared_by c.args.types.now (ref_name c.args.whole ∷ []) _ _ (ap (map ref_name) none)
    c.loop-next.invariant
