use Rattle.std.proofs.Common.{◌≡◌, ◌+◌, suc, sym, ap, ◌∙◌, arith}
use Rattle.std.specs.Option.{option_map}
use Rattle.intern_index.specs.IndexEntry.{spot_before}
use Rattle.table_tests.proofs.numbers.Numbers+BirthOrder.ends_with.Goals as goal

pub loop-at-preserved : goal.loop-at-preserved
loop-at-preserved g c = let next : c.loop-at.at + 1 ≡ suc c.loop-at.at = omega arith in ap (option_map (λ r. r.0)) (sym c.expect.ensures) ∙ c.nth.ensures.spot ∙ ap (spot_before c.args.self.now.index.entries) (sym next)
