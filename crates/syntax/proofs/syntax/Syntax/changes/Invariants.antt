use Rattle.std.proofs.Common.{map, reverse}
use Rattle.intern_terms.specs.Handle.{term_name}
use Rattle.intern_terms.specs.Tree.{Tree, UnfoldsTo}
use Rattle.syntax.specs.Changes.{swap, olds_of, news_of}
use Rattle.syntax.proofs.Edits.{Leads}
use Rattle.syntax.proofs.syntax.Syntax.changes.Given as goal

-- what was told, and what is told of the pairs on the stack, leads from the old tree to the new
abbrev pub invariant-loop : goal.invariant-loop
invariant-loop l = (t u : Tree) → UnfoldsTo l.self.terms (term_name l.fn.whole.old.tree) t
    → UnfoldsTo l.self.terms (term_name l.fn.whole.new.tree) u
    → Leads l.self.terms l.counter (olds_of (reverse l.pairs.items)) (news_of (reverse l.pairs.items))
    (map swap l.changes.items) t u
