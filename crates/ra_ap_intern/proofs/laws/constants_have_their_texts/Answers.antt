use Rattle.std.proofs.Common.{refl}
use Rattle.intern_presets.specs.Table.{table}
use Rattle.intern_presets.specs.Presets.{preset_text}
use Rattle.ra_ap_intern.specs.Constants.{constants}
use Rattle.ra_ap_intern.specs.Symbols.{source_of}
use Rattle.ra_ap_intern.proofs.laws.constants_have_their_texts.Goals as goal

pub returns : goal.returns
unfolding constants preset_text source_of table
returns c = refl
