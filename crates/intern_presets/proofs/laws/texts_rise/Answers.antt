use Rattle.intern_presets.proofs.Computed.{table_rises}
use Rattle.intern_presets.proofs.laws.texts_rise.Goals as goal

pub returns : goal.returns
returns c = table_rises
