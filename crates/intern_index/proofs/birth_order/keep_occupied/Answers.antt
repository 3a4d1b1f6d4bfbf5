use Rattle.std.proofs.Common.{rules}
use Rattle.std.proofs.lemmas.Fn.{filter_same}
use Rattle.intern_index.specs.Ordered.{is_occupied}
use Rattle.intern_index.proofs.birth_order.keep_occupied.Goals as goal

pub returns : goal.returns
returns g c = filter_same _ (is_occupied c.args.slots.now) _ (λ x b f' k. search rules) _ _ c.retain.ensures.filtered
