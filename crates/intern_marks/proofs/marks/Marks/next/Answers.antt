use Rattle.std.proofs.Common.{◌≡◌, ◌<◌, Some, IsSome, List, sym, ap, ◌∙◌, subst, arith}
use Rattle.std.specs.List.{slice_get}
use Rattle.std.specs.Option.{option_map}
use Rattle.std.proofs.lemmas.Option.{slice_get-map, slice_get_within}
use Rattle.std.specs.FinMap.{len}
use Rattle.intern_marks.specs.Marks.{Marks}
use Rattle.intern_marks.specs.Slotted.{registered_at, name_in}
use Rattle.intern_marks.proofs.Kept.{fewer_slots, marked_taken, named_in}
use Rattle.intern_marks.proofs.marks.Marks.next.Goals as goal
use Rattle.intern_marks.proofs.marks.Marks.next.Goals.{In_ok-slot}

module _ (c : In_ok-slot) where
  first : slice_get c.self.inside.marked.items c.self.inside.visits ≡ Some c.in_ok-slot.slot
  first = sym (c.in_ok-slot.ensures ∙ ap (λ (l : List _). slice_get l c.self.inside.visits) c.as_slice.ensures.value)

  taken : IsSome (registered_at c.self.inside.slots c.in_ok-slot.slot)
  taken = let a = c.self.inside in marked_taken c.self.invariant a.visits c.in_ok-slot.slot first

pub returns-clause-name : goal.returns-clause-name
returns-clause-name c =
    let a = c.self.inside in
    let here = (goal.at.returns-clause-name c).In_ok-slot in
    c.key.ensures ∙ named_in (registered_at a.slots c.in_ok-slot.slot) (taken here)
    ∙ ap (option_map (λ i. name_in (registered_at a.slots i))) (sym (first here))
    ∙ sym (slice_get-map (λ i. name_in (registered_at a.slots i)) a.marked.items a.visits)
    ∙ ap (λ (m : Marks). slice_get m.marked m.visits) c.self.view_is

pub returns-clause-within : goal.returns-clause-within
returns-clause-within c =
    let a = c.self.inside in
    let past = slice_get_within a.marked.items a.visits c.in_ok-slot.slot (first (goal.at.returns-clause-within c).In_ok-slot) in
    subst (λ (m : Marks). m.visits < len m.registered) c.self.view_is
    (omega (arith, fewer_slots a.marked c.self.invariant, past, c.self.invariant.tied.sized, a.marked.ok.0))
