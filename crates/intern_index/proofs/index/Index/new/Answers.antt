use Rattle.intern_index.proofs.Held.{held-empty, empty_tied}
use Rattle.intern_index.proofs.index.Index.new.Goals as goal

pub invariant_of-result : goal.invariant_of-result
invariant_of-result g c = empty_tied _ _ c.new.ensures.empty c.new-3.ensures

pub returns : goal.returns
returns g c = held-empty _ c.new.ensures.empty
