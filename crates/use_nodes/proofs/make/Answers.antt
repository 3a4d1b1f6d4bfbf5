use Rattle.ra_ap_intern.proofs.CallerLemmas.{makes}
use Rattle.use_nodes.specs.Parts.{parts_in}
use Rattle.use_nodes.proofs.make.Goals as goal

pub returns : goal.returns
returns c =
    let made = c.get_or_intern_gc.ensures in
    makes _ parts_in c.expressions_are_their_parts.ensures _ c.number-number.ensures.state _ _ _
    made.name made.refused made.state
