use Rattle.std.proofs.Common.{ap, ◌∙◌, subst}
use Rattle.std.specs.FinMap.{get, get-empty}
use Rattle.intern_marks.specs.Learning.{Learns}
use Rattle.intern_marks.specs.Marks.{Marks}
use Rattle.intern_marks.specs.Names.{name_cmp}
use Rattle.ra_ap_intern.proofs.gc.GarbageCollector.learn.Goals as goal

pub learn-requires-clause-new : goal.learn-requires-clause-new
learn-requires-clause-new g c = λ x there. ap (λ (m : Marks). get m.registered x) c.in_ok-marks.ensures ∙ get-empty name_cmp x

pub returns-clause-ok : goal.returns-clause-ok
returns-clause-ok g c = subst (λ old. Learns c.args.roots (g.F.Family.entries c.args.family.now) old c.learn.new.marks) c.in_ok-marks.ensures c.in_ok-learn.ensures
