-- The parts of a world.
use Rattle.intern_calls.specs.World.{WorldState}
use Rattle.intern_calls.specs.declared.parts.Parts.{Parts}

abbrev pub world_of : {C G S H I : Type 0} → Parts C G S H I → WorldState C G H I
world_of p = record {
  counted = p.counted;
  values = p.family.first;
  slices = p.family.second;
  table = p.table;
  slots = p.slots.held;
}
