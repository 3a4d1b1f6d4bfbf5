use Rattle.std.proofs.Common.{is_some, ap, ◌∙◌}
use Rattle.std.specs.FinMap.{get as map_get, get-empty}
use Rattle.std.specs.Ordering.{nat_cmp}
use Rattle.intern_index.proofs.Seen.{empty_led}
use Rattle.table_tests.proofs.numbers.Numbers.new.Goals as goal

pub invariant_of-result : goal.invariant_of-result
invariant_of-result g c = record {
  below = λ b some. let none = ap (λ m. is_some (map_get m b)) c.new.ensures ∙ ap is_some (get-empty nat_cmp b) in absurd (cc);
  led = empty_led _ c.new.result c.new.ensures;
}
