use Rattle.std.proofs.Common.{◌≡◌, ◌⊎◌, true, List}
use Rattle.ra_ap_intern.specs.Names.{has}
use Rattle.ra_ap_intern.specs.Name.{Name}
use Rattle.intern_terms.specs.Handle.{term_name}
use Rattle.intern_terms.specs.Walk.{IsWalk}
use Rattle.intern_terms.proofs.Opened.{AreOpen, AllReached, Begins, work}
use Rattle.intern_terms.proofs.store.TermStore.find_all.Given as goal

-- what is open goes down from the root, and once nothing is, the root was found
abbrev pub invariant-loop-top : goal.invariant-loop-top
invariant-loop-top g l = record {
  stack : AreOpen l.self l.found l.self.next l.open.items;
  walk : (listed : List Name) → has listed (term_name l.fn.root) ≡ true
      → IsWalk listed l.self l.fn.found
      → IsWalk listed l.self l.found × AllReached listed l.self l.open.items;
  keeps : (name : Name) → has l.fn.found name ≡ true → has l.found name ≡ true;
  begins : (has l.found (term_name l.fn.root) ≡ true)
      ⊎ Begins (term_name l.fn.root) l.open.items;
}

abbrev pub decreases-loop-top : goal.decreases-loop-top
decreases-loop-top g l = work l.self l.found l.open.items
