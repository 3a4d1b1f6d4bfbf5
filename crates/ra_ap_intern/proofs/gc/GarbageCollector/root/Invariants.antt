use Rattle.std.proofs.Common.{◌≡◌, drop}
use Rattle.intern_marks.specs.Marks.{roots}
use Rattle.ra_ap_intern.proofs.gc.GarbageCollector.root.Given as goal

-- the roots that are left make of the marks what all of them make of the first
abbrev pub invariant-loop-name : goal.invariant-loop-name
invariant-loop-name l = roots l.self-inside.marks (drop l.name-index l.listed) ≡ roots l.fn.self l.listed
