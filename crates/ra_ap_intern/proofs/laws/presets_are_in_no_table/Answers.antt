use Rattle.ra_ap_intern.proofs.Texts.{preset_is_absent}
use Rattle.ra_ap_intern.proofs.laws.presets_are_in_no_table.Goals as goal

pub returns : goal.returns
returns c = preset_is_absent
