use Rattle.std.proofs.Common.{arith}
use Rattle.std.proofs.lemmas.Nat.{mul-le}
use Rattle.intern_index.proofs.Held.{len-seen, entries_seen}
use Rattle.intern_index.proofs.index.Index.memory.Goals as goal

pub returns : goal.returns
returns g c =
    let many = len-seen c.self.inside.slots _ (entries_seen _ _ _ _ c.self.view_is) c.self.invariant.apart in
    let taken = mul-le _ 8 c.capacity.result c.max-slot.result c.capacity.ensures.holds_all (omega (arith, c.max-slot.ensures)) in
    omega (arith, many, taken, c.saturating_mul-slots.ensures, c.saturating_add.ensures, c.saturating_add-2.ensures)
