use Rattle.std.proofs.Common.{ap, ◌∙◌}
use Rattle.std.specs.FinMap.{len}
use Rattle.intern_marks.specs.Marks.{Marks}
use Rattle.ra_ap_intern.proofs.Registering.{learnt_alone, learnt_size}
use Rattle.ra_ap_intern.proofs.gc.GarbageCollector.register.Goals as goal

pub returns-clause-ok : goal.returns-clause-ok
returns-clause-ok g c =
    c.fill.ensures ∙ c.self.view_is ∙ learnt_alone (g.F.Family.entries c.args.family.now) c.learn.new.self c.in_ok-learn.ensures.ok

pub returns-clause-size : goal.returns-clause-size
returns-clause-size g c =
    ap (λ (m : Marks). len m.registered) (c.fill.ensures ∙ c.self.view_is)
    ∙ learnt_size _ (g.F.Family.entries c.args.family.now) c.learn.new.self c.in_ok-learn.ensures.ok
