use Rattle.std.proofs.Common.{rules}
use Rattle.intern_presets.specs.Slots.{slot_of}
use Rattle.intern_presets.proofs.slots.slot.Goals as goal

pub returns-clause-is : goal.returns-clause-is
unfolding slot_of
returns-clause-is c = search rules
