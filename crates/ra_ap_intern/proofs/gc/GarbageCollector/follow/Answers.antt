use Rattle.std.proofs.Common.{◌≡◌, ◌+◌, ◌<◌, false, List, sym, ap, ◌∙◌, subst, arith}
use Rattle.std.specs.FinMap.{len}
use Rattle.std.specs.List.{slice_get}
use Rattle.intern_marks.specs.Marks.{Marks, begun, mark, marks}
use Rattle.intern_marks.specs.Reach.{children_in, starts_with}
use Rattle.intern_marks.specs.Trace.{IsTrace}
use Rattle.intern_marks.proofs.Steps.{mark_places, each-registered, each-visits}
use Rattle.intern_marks.proofs.Traces.{visit_keeps, counted_begin}
use Rattle.intern_store.specs.Named.{key_name}
use Rattle.intern_store.specs.declared.names.Name.{Name}
use Rattle.ra_ap_intern.proofs.gc.GarbageCollector.follow.Goals as goal

-- a visit of a pending name keeps what is registered, and is one more
visited : (now old : Marks) (kids : List Name) → now ≡ marks (begun old) kids → record { registered : now.registered ≡ old.registered; visits : now.visits ≡ old.visits + 1 }
visited now old kids is = record {
  registered = ap (λ (m : Marks). m.registered) is ∙ each-registered false mark mark_places (begun old) kids;
  visits = ap (λ (m : Marks). m.visits) is ∙ each-visits false mark mark_places (begun old) kids;
}

pub loop-key-preserved : goal.loop-key-preserved
loop-key-preserved g c =
    let all = g.F.Family.entries c.args.family.now in
    let kids = children_in all (key_name c.in-Some.key) in
    let turn = c.visit-is_there.ensures.marks ∙ ap (λ m. marks m kids) (c.in-Some.ensures.some ∙ ap begun c.self.view_is) in
    record {
      trace = λ listed t.
          subst (IsTrace (starts_with listed all) all) (sym turn)
          (visit_keeps (starts_with listed all) all c.loop-key.self (c.loop-key.invariant.trace listed t) (counted_begin all listed) (key_name c.in-Some.key)
          (sym (c.in-Some.ensures.name ∙ ap (λ (m : Marks). slice_get m.marked m.visits) c.self.view_is)));
      registered = (visited _ c.loop-key.self kids turn).registered ∙ c.loop-key.invariant.registered;
    }

pub loop-key-smaller : goal.loop-key-smaller
loop-key-smaller g c =
    let within = subst (λ (m : Marks). m.visits < len m.registered) c.self.view_is c.in-Some.ensures.within in
    let kids = children_in (g.F.Family.entries c.args.family.now) (key_name c.in-Some.key) in
    let left = visited _ c.loop-key.self kids (c.visit-is_there.ensures.marks ∙ ap (λ m. marks m kids) (c.in-Some.ensures.some ∙ ap begun c.self.view_is)) in
    let same = ap len left.registered in
    let more = left.visits in
    omega arith

pub returns-clause-trace : goal.returns-clause-trace
returns-clause-trace g c = λ listed t.
    let all = g.F.Family.entries c.args.family.now in
    subst (IsTrace (starts_with listed all) all) (sym (c.in_default.ensures.none ∙ c.self.view_is)) (c.loop-key.invariant.trace listed t)
