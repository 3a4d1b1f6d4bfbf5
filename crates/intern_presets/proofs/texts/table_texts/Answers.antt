use Rattle.std.proofs.Common.{refl}
use Rattle.intern_presets.specs.Table.{table}
use Rattle.intern_presets.proofs.texts.table_texts.Goals as goal

pub returns : goal.returns
unfolding table
returns c = refl
