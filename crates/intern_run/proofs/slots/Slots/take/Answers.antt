use Rattle.std.proofs.Common.{◌≡◌, None, ap, ◌∙◌, rules, arith}
use Rattle.std.proofs.lemmas.Grind.{common_steps}
use Rattle.std.specs.Prelude.{slice_set}
use Rattle.intern_run.proofs.Names.{names-set}
use Rattle.intern_run.proofs.slots.Slots.take.Goals as goal
use Rattle.intern_run.proofs.slots.Slots.take.Goals.{in-Some, in-None}

pub returns-clause-slots : goal.returns-clause-slots
returns-clause-slots c =
    let emptied : c.match-get_mut.self-inside.slots.items ≡ slice_set c.self.inside.slots.items c.args.n None =
    elim c.match-get_mut.branch [
      | in-Some w ↦ rw w.self-inside-is (search rules)
      | in-None w ↦ rw w.self-inside-is (grind (arith, common_steps, c.get_mut.ensures.variant))
    ] in
    names-set _ _ c.args.n None emptied ∙ ap (λ slots. slice_set slots c.args.n None) c.self.view_is
