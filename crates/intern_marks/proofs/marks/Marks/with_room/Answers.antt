use Rattle.std.proofs.Common.{vec_capacity}
use Rattle.intern_marks.proofs.Kept.{nothing_kept}
use Rattle.intern_marks.proofs.marks.Marks.with_room.Goals as goal

pub invariant_of-result : goal.invariant_of-result
invariant_of-result c =
    let s = c.in_ok-with_room.field-0 in
    let marked = c.in_ok-with_capacity.field-0 in
    nothing_kept s c.new.result marked.items (vec_capacity marked) c.in_ok-with_room.ensures.count c.in_ok-with_room.ensures.parts c.new.ensures c.in_ok-with_capacity.ensures.items
