use Rattle.std.proofs.Common.{◌≡◌, ◌-◌, List}
use Rattle.std.specs.FinMap.{len}
use Rattle.intern_marks.specs.Reach.{starts_with}
use Rattle.intern_marks.specs.Trace.{IsTrace}
use Rattle.intern_store.specs.declared.names.Name.{Name}
use Rattle.ra_ap_intern.proofs.gc.GarbageCollector.follow.Given as goal

-- a trace that was begun goes on
abbrev pub invariant-loop-key : goal.invariant-loop-key
invariant-loop-key g l = record {
  trace : let all = g.F.Family.entries l.fn.family in (listed : List Name)
      → IsTrace (starts_with listed all) all l.fn.self → IsTrace (starts_with listed all) all l.self;
  registered : l.self.registered ≡ l.fn.self.registered;
}

abbrev pub decreases-loop-key : goal.decreases-loop-key
decreases-loop-key g l = len l.self.registered - l.self.visits
