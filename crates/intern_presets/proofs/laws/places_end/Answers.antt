use Rattle.intern_presets.proofs.Standing.{ends}
use Rattle.intern_presets.proofs.laws.places_end.Goals as goal

pub returns : goal.returns
returns c = ends
