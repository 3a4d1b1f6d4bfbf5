use Rattle.std.proofs.Common.{◌≤◌, length, subst}
use Rattle.intern_marks.specs.Marks.{IsSound, Marks}
use Rattle.intern_marks.proofs.Tied.{fewer}
use Rattle.intern_marks.proofs.marks.Marks.len.Goals as goal

pub returns-clause-within : goal.returns-clause-within
returns-clause-within c =
    let a = c.self.inside in
    subst (λ (m : Marks). length m.marked ≤ a.size) c.self.view_is
    (fewer c.self.invariant.tied)

pub returns-clause-sound : goal.returns-clause-sound
returns-clause-sound c =
    subst (λ (m : Marks). IsSound m.registered m.marked) c.self.view_is c.self.invariant.tied.sound

pub returns-clause-visited : goal.returns-clause-visited
returns-clause-visited c =
    subst (λ (m : Marks). m.visits ≤ length m.marked) c.self.view_is c.self.invariant.tied.within
