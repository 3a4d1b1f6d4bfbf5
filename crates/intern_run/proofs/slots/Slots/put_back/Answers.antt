use Rattle.std.proofs.Common.{◌≡◌, Some, ap, ◌∙◌, rules, arith}
use Rattle.std.proofs.lemmas.Grind.{common_steps}
use Rattle.std.specs.Prelude.{slice_set}
use Rattle.ra_ap_intern.specs.Handle.{name_of}
use Rattle.intern_run.proofs.Names.{names-set}
use Rattle.intern_run.proofs.slots.Slots.put_back.Goals as goal
use Rattle.intern_run.proofs.slots.Slots.put_back.Goals.{in-Some, in_default}

pub returns : goal.returns
returns c =
    let set : c.match-get_mut.self-inside.slots.items ≡ slice_set c.self.inside.slots.items c.args.n (Some c.args.handle) =
    elim c.match-get_mut.branch [
      | in-Some w ↦ rw w.self-inside-is (search rules)
      | in_default w ↦ rw w.self-inside-is (grind (arith, common_steps, c.get_mut.ensures.variant))
    ] in
    names-set _ _ c.args.n (Some c.args.handle) set ∙ ap (λ slots. slice_set slots c.args.n (Some (name_of c.args.handle))) c.self.view_is
