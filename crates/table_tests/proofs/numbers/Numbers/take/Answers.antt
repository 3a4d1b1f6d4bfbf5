use Rattle.std.proofs.Common.{ℕ, Bool, true, false, cond, Option, None, IsSome, is_some, nat_eq, ap, sym, ◌∙◌}
use Rattle.std.specs.FinMap.{get as map_get}
use Rattle.intern_store.proofs.Compared.{get-removed}
use Rattle.intern_index.specs.IndexEntry.{Indexed}
use Rattle.intern_index.proofs.Seen.{removed_led}
use Rattle.table_tests.proofs.numbers.Numbers.take.Goals as goal

was_there : {X : Type 0} (t : Bool) (o : Option X) → IsSome (cond t None o) → IsSome o
was_there true o some = absurd (cc)
was_there false o some = some

pub invariant_of-self : goal.invariant_of-self
invariant_of-self g c = record {
  below = λ b some.
      c.args.self.now.below b (was_there (nat_eq b c.args.spot.birth) _
      (sym (ap (λ (i : Indexed ℕ ℕ). is_some (map_get i.entries b)) c.remove.ensures.removed ∙ ap is_some (get-removed c.args.self.now.index.entries c.args.spot.birth b)) ∙ some));
  led = removed_led _ c.args.self.now.index c.remove.new.self c.args.spot.birth c.args.self.now.led c.remove.ensures.removed;
}
