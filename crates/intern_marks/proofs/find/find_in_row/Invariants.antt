use Rattle.std.proofs.Common.{◌≡◌, ℕ, ◌<◌, true, Some, slice_get}
use Rattle.intern_marks.specs.Parts.{covers}
use Rattle.intern_marks.specs.Slotted.{IsAt}
use Rattle.intern_marks.specs.declared.flags.Flags.{Flags}
use Rattle.intern_marks.specs.declared.part.Part.{Part}
use Rattle.intern_marks.proofs.find.find_in_row.Given as goal

-- none of the parts that were passed covers a slot of the name
abbrev pub invariant-loop-index : goal.invariant-loop-index
invariant-loop-index l = record {
  none : (k i : ℕ) (p : Part) (f : Flags) → k < l.index → slice_get l.fn.slots.parts.items k ≡ Some p
      → covers i p ≡ true → IsAt l.fn.slots i l.fn.name f → ⊥;
}
