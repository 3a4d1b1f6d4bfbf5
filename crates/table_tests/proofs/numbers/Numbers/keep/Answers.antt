use Rattle.std.proofs.Common.{ℕ, Bool, true, false, cond, Option, None, IsSome, is_some, ap, sym, ◌∙◌}
use Rattle.std.specs.FinMap.{get as map_get}
use Rattle.intern_store.proofs.Compared.{get-retained}
use Rattle.intern_index.specs.IndexEntry.{Indexed}
use Rattle.intern_index.proofs.Seen.{retained_led}
use Rattle.table_tests.proofs.numbers.Numbers.keep.Goals as goal

was_there : {X : Type 0} (t : Bool) (o : Option X) → IsSome (cond t o None) → IsSome o
was_there true o some = some
was_there false o some = absurd (cc)

pub invariant_of-self : goal.invariant_of-self
invariant_of-self g c = record {
  below = λ b some.
      c.args.self.now.below b (was_there (g.M.Keeps.marked c.args.marks.now b) _
      (sym (ap (λ (i : Indexed ℕ ℕ). is_some (map_get i.entries b)) c.keep.ensures ∙ ap is_some (get-retained c.args.self.now.index.entries _ b)) ∙ some));
  led = retained_led _ c.args.self.now.index c.keep.new.self _ c.args.self.now.led c.keep.ensures;
}
