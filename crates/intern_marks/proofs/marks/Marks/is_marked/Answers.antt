use Rattle.std.proofs.Common.{sym, ap, ◌∙◌}
use Rattle.intern_store.specs.Named.{key_name}
use Rattle.intern_marks.specs.Marks.{Marks}
use Rattle.intern_marks.specs.Names.{has}
use Rattle.intern_marks.proofs.Tied.{nowhere_unmarked}
use Rattle.intern_marks.proofs.marks.Marks.is_marked.Goals as goal

pub returns-in-None : goal.returns-in-None
returns-in-None c =
    sym (ap (λ (m : Marks). has m.marked (key_name c.args.key)) (sym c.self.view_is)
    ∙ nowhere_unmarked c.self.invariant.tied (key_name c.args.key) c.in-None.ensures.none)
