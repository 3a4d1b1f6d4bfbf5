use Rattle.ra_ap_intern.proofs.CallerLemmas.{makes}
use Rattle.types.specs.Types.{shape}
use Rattle.types.proofs.Closed.{closed_on}
use Rattle.types.proofs.store.Types.intern.Goals as goal

pub returns : goal.returns
returns c =
    let made = c.get_or_intern_gc.ensures in
    rw (← c.self.view_is)
    (makes _ shape c.types_are_their_shapes.ensures _ c.number-number.ensures.state _ _ _ made.name
    made.refused made.state)

pub invariant_of-self : goal.invariant_of-self
invariant_of-self c =
    let made = c.get_or_intern_gc.ensures in
    closed_on _ _ (makes _ shape c.types_are_their_shapes.ensures _ c.number-number.ensures.state _ _ _ made.name
    made.refused made.state).stays _ c.self.invariant
