use Rattle.std.proofs.Common.{◌≡◌, ℕ, ◌+◌, ◌<◌, Bool, true, false, cond, Option, Some, IsSome, is_some, nat_eq, ap, refl, sym, ◌∙◌, arith}
use Rattle.std.specs.FinMap.{get as map_get}
use Rattle.std.proofs.lemmas.Bool.{eqb-true}
use Rattle.intern_store.proofs.Compared.{get-inserted}
use Rattle.table_tests.proofs.numbers.Numbers.add.Goals as goal

still_below : {X : Type 0} (b n : ℕ) (x : X) (o : Option X) → (IsSome o → b < n) → (t : Bool) → nat_eq b n ≡ t → IsSome (cond t (Some x) o) → b < n + 1
still_below b n x o below true t some = let is = eqb-true b n t in omega arith
still_below b n x o below false t some = let lower = below some in omega arith

pub invariant_of-self : goal.invariant_of-self
invariant_of-self g c = record {
  below = λ b some.
      let added = rw c.expect-place.ensures at c.insert.ensures.ok in
      still_below b c.args.self.now.next _ _ (c.args.self.now.below b) _ refl
      (sym (ap (λ m. is_some (map_get m b)) added ∙ ap is_some (get-inserted c.args.self.now.index.entries c.args.self.now.next _ b)) ∙ some);
  led = c.insert.ensures.led;
}
