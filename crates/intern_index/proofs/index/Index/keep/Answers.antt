use Rattle.intern_index.specs.Entries.{birth_at}
use Rattle.intern_index.proofs.Held.{entry_there, birth_there, entries_seen, changed_seen}
use Rattle.intern_index.proofs.Changes.{less_tied}
use Rattle.intern_index.proofs.Sweeps.{was_there, swept_seen}
use Rattle.intern_index.proofs.index.Index.keep.Goals as goal

pub invariant_of-self : goal.invariant_of-self
invariant_of-self g c =
    let s = c.self.inside.slots in
    let new = c.keep_marked.new.slots in
    let was = was_there (g.M.Keeps.marked c.args.marks.now) s new c.keep_marked.ensures in
    less_tied s new _ c.self.invariant _ was
    (c.forget.ensures (birth_at s) c.self.invariant.found (λ p b is. let w = entry_there new p b is in birth_there s p b w.0 (was p w.0 w.1) w.2))

pub returns : goal.returns
returns g c =
    changed_seen _ _ _ _ c.self.view_is _ _ _
    (swept_seen (g.M.Keeps.marked c.args.marks.now) c.self.inside.slots c.keep_marked.new.slots c.keep_marked.ensures _ (entries_seen _ _ _ _ c.self.view_is) c.self.invariant.apart)
