use Rattle.std.proofs.Common.{inl, inr, None, ap, sym, ◌∙◌, arith}
use Rattle.std.proofs.lemmas.Bool.{cases_lt}
use Rattle.std.proofs.lemmas.List.{get_or_past}
use Rattle.intern_index.specs.Swept.{if_marked}
use Rattle.intern_index.proofs.sweep.keep_marked.Goals as goal

pub returns-else-is_empty : goal.returns-else-is_empty
returns-else-is_empty g c = λ p.
    let marked = g.M.Keeps.marked c.args.marks.now in
    let end = c.loop-place-test.false in
    let all = c.capacity-place-end.ensures.slots in
    elim (cases_lt p c.loop-place.place) [
      | inl below ↦ c.loop-place.invariant.done p below
      | inr past ↦
          let none = get_or_past c.args.slots.now.slots p None (omega arith) in
          c.loop-place.invariant.rest p past ∙ none ∙ sym (ap (if_marked marked) none)
    ]
