use Rattle.std.proofs.Common.{◌≡◌, Some, rules, sym, subst}
use Rattle.ra_ap_intern.specs.Handle.{ref_name}
use Rattle.types.specs.Tree.{StandsClosed}
use Rattle.types.specs.Types.{shape, shape_at}
use Rattle.types.proofs.Closed.{put_closed}
use Rattle.types.proofs.store.Types.make.Goals as goal

pub invariant_of-self : goal.invariant_of-self
invariant_of-self c =
    let s = c.intern.new.self in
    let name = ref_name c.in_ok-handle.handle in
    let at : shape_at s name ≡ Some (shape c.args.node) = search rules in
    let here : StandsClosed s name = search rules in
    put_closed c.self.inside.types _ _ c.in_ok-handle.handle c.insert.result c.insert.ensures.keys c.insert.ensures.err
    c.self.invariant (subst (λ t. StandsClosed t name) (sym c.self.view_is) here)
