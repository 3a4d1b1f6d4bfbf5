use Rattle.std.proofs.Common.{List, [], ◌∷◌, ◌++◌, sym, ◌∙◌, ap, arith}
use Rattle.ra_ap_intern.specs.Name.{Name}
use Rattle.intern_calls.proofs.Lists.{more_some, more_none}
use Rattle.intern_calls.specs.Step.{root_at}
use Rattle.intern_calls.proofs.parts.Parts.roots.Goals as goal
use Rattle.intern_calls.proofs.parts.Parts.roots.Goals.{in-Some, in-None}

pub loop-n-preserved : goal.loop-n-preserved
loop-n-preserved g c = elim c.match-root.branch [
  | in-Some w ↦ rw w.names-is (record {
    names = w.push_reserved.ensures.items
        ∙ ap (λ (t : List Name). t ++ w.in-Some.name ∷ []) c.loop-n.invariant.names
        ∙ sym (more_some (root_at c.args.self.now.slots.held) c.args.slots.now c.loop-n.n-index
        w.in-Some.name c.loop-n-test.true (sym c.root.ensures ∙ w.in-Some.is));
    few = let k = w.push_reserved.ensures.len in omega arith;
    room = let k = w.push_reserved.ensures.capacity in omega arith;
  })
  | in-None w ↦ rw w.names-is (record {
    names = c.loop-n.invariant.names
        ∙ sym (more_none (root_at c.args.self.now.slots.held) c.args.slots.now c.loop-n.n-index
        c.loop-n-test.true (sym c.root.ensures ∙ w.in-None.is));
    few = omega arith;
    room = c.loop-n.invariant.room;
  })
]
