use Rattle.std.proofs.Common.{◌≡◌, Bool, List, [], IfOk, subst}
use Rattle.intern_store.specs.declared.names.Name.{Name}
use Rattle.intern_marks.specs.Names.{has}
use Rattle.intern_marks.proofs.Traces.{starts_with_none}
use Rattle.ra_ap_intern.specs.Families.{IsCollection}
use Rattle.ra_ap_intern.proofs.gc.GarbageCollector.collect.Goals as goal

pub returns-clause-ok : goal.returns-clause-ok
returns-clause-ok g c =
    let all = g.F.Family.entries c.args.family.now in
    subst
    (λ (begins : Name → Bool). IfOk c.collect_keeping.result (λ told. (names : List Name) × IsCollection begins all names told
    × (c.collect_keeping.new.family ≡ g.F.Family.kept c.args.family.now (has names))))
    (starts_with_none all [] (λ x is. cc is))
    c.collect_keeping.ensures.ok
