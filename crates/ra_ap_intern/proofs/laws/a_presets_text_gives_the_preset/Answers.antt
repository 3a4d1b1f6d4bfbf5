use Rattle.ra_ap_intern.proofs.Texts.{preset_given}
use Rattle.ra_ap_intern.proofs.laws.a_presets_text_gives_the_preset.Goals as goal

pub returns : goal.returns
returns c = preset_given
