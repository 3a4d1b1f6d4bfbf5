use Rattle.std.proofs.Common.{◌≡◌, length, List}
use Rattle.intern_terms.specs.Handle.{term_name}
use Rattle.intern_terms.specs.Tree.{Tree, UnfoldsTo}
use Rattle.syntax.specs.Machine.{Unclosed, reduced}
use Rattle.syntax.specs.Parsing.{Keeps, Opens}
use Rattle.syntax.proofs.Reading.{Reduces}
use Rattle.syntax.proofs.syntax.Syntax.reduce.Given as goal

-- what is left to reduce comes to what there was at first
abbrev pub invariant-loop-frame : goal.invariant-loop-frame
invariant-loop-frame l = record {
  reduced : (os : List Unclosed) (t : Tree)
      → Opens l.fn.self.terms l.fn.machine.frames.items os
      → UnfoldsTo l.fn.self.terms (term_name l.fn.value) t
      → Reduces l.self.terms l.machine.frames.items l.value l.before (reduced l.before os t);
  items : l.machine.items ≡ l.fn.machine.items;
  keeps : Keeps l.fn.self.terms l.self.terms;
}

abbrev pub decreases-loop-frame : goal.decreases-loop-frame
decreases-loop-frame l = length l.machine.frames.items
