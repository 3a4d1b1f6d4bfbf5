use Rattle.std.proofs.Common.{true, false, sym, ◌∙◌, ap, subst}
use Rattle.std.specs.FinMap.{len}
use Rattle.intern_marks.specs.Marks.{Marks, mark, untold}
use Rattle.intern_marks.specs.Reach.{starts_with}
use Rattle.intern_marks.specs.Trace.{IsTrace}
use Rattle.intern_marks.proofs.Steps.{mark_places, each-registered}
use Rattle.intern_marks.proofs.Traces.{calls_begin}
use Rattle.ra_ap_intern.proofs.Registering.{learnt_size}
use Rattle.ra_ap_intern.proofs.gc.GarbageCollector.trace.Goals as goal

pub returns : goal.returns
returns g c =
    let all = g.F.Family.entries c.args.family.now in
    let listed = g.R.GcInternedVisit.children c.args.roots.now in
    let learnt = c.in_ok-learn.ensures.ok in
    let marked = c.forget_calls.ensures ∙ ap untold (c.self.view_is ∙ c.visit_with.ensures) in
    c.followed.ensures listed
    (subst (IsTrace (starts_with listed all) all) (sym marked) (calls_begin all listed c.learn.new.self learnt))
    (ap (λ (m : Marks). len m.registered) marked ∙ ap len (each-registered false mark mark_places c.learn.new.self listed)
    ∙ learnt_size true all c.learn.new.self learnt)
