use Rattle.intern_presets.proofs.Standing.{one_place}
use Rattle.intern_presets.proofs.laws.presets_differ.Goals as goal

pub returns : goal.returns
returns c = one_place
