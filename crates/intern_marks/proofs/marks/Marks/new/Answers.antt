use Rattle.std.proofs.Common.{vec_capacity}
use Rattle.intern_marks.proofs.Kept.{nothing_kept}
use Rattle.intern_marks.proofs.marks.Marks.new.Goals as goal

pub invariant_of-result : goal.invariant_of-result
invariant_of-result c =
    nothing_kept c.new.result c.new-2.result c.new-3.result.items (vec_capacity c.new-3.result) c.new.ensures.count c.new.ensures.parts c.new-2.ensures c.new-3.ensures.items
