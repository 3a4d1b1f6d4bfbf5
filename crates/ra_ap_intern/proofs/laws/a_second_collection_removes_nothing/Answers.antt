use Rattle.intern_marks.specs.Names.{has}
use Rattle.ra_ap_intern.proofs.Collections.{reaches_all, none_removed}
use Rattle.ra_ap_intern.proofs.laws.a_second_collection_removes_nothing.Goals as goal

pub returns-clause-told : goal.returns-clause-told
returns-clause-told g c = λ f listed names again told first second.
    none_removed (g.F.Family.entries f) (g.F.Family.entries (g.F.Family.kept f (has names))) listed names again told.removed first
    (g.met.F.Family.kept_entries f (has names)) second.reached second.removed

pub returns-clause-left : goal.returns-clause-left
returns-clause-left g c = λ f listed names again first second.
    let left = g.F.Family.kept f (has names) in
    g.met.F.Family.kept_whole left (has again)
    (reaches_all (g.F.Family.entries f) (g.F.Family.entries left) listed names again first (g.met.F.Family.kept_entries f (has names)) second)
