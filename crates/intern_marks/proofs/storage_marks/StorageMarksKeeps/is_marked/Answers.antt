use Rattle.std.proofs.Common.{sym, ap, ◌∙◌}
use Rattle.intern_marks.specs.Names.{has}
use Rattle.intern_marks.specs.StorageMarks.{Swept}
use Rattle.intern_marks.proofs.Tied.{nowhere_unmarked}
use Rattle.intern_marks.proofs.storage_marks.StorageMarksKeeps.is_marked.Goals as goal

pub returns-in-None : goal.returns-in-None
returns-in-None c =
    sym (ap (λ (s : Swept). has s.marked (record { storage = s.number; birth = c.args.spot.birth })) (sym c.self.view_is)
    ∙ nowhere_unmarked c.self.invariant.tied _ c.in-None.ensures.none)
