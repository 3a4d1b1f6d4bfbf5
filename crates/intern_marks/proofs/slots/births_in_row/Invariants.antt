use Rattle.std.proofs.Common.{◌≡◌, ℕ, ◌<◌, ◌≤◌, Some, slice_index_or, vec_len, vec_capacity}
use Rattle.intern_store.specs.declared.names.Name.{Name}
use Rattle.intern_marks.specs.Parts.{row_at}
use Rattle.intern_marks.proofs.slots.births_in_row.Given as goal

-- the births in the slots that were passed are there
abbrev pub invariant-loop-slot : goal.invariant-loop-slot
invariant-loop-slot l = record {
  len : vec_len l.births ≡ l.slot;
  room : l.fn.room ≤ vec_capacity l.births;
  births : (i : ℕ) (x : Name) → i < l.slot → row_at l.fn.parts i ≡ Some x
      → slice_index_or l.births.items i 0 ≡ x.birth;
}
