use Rattle.ra_ap_intern.proofs.CallerLemmas.{makes}
use Rattle.use_types.specs.Types.{shape}
use Rattle.use_types.proofs.make.Goals as goal

pub returns : goal.returns
returns c =
    let made = c.get_or_intern_gc.ensures in
    makes _ shape c.types_are_their_shapes.ensures _ c.number-number.ensures.state _ _ _ made.name
    made.refused made.state
