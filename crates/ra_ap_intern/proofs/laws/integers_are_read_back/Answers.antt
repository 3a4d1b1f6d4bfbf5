use Rattle.std.proofs.Common.{◌∙◌, ap, decimal, option_and_then}
use Rattle.intern_presets.specs.Numbers.{number_value}
use Rattle.intern_presets.proofs.Parsed.{number_value-decimal}
use Rattle.ra_ap_intern.proofs.Texts.{reads_back}
use Rattle.ra_ap_intern.proofs.laws.integers_are_read_back.Goals as goal

pub returns : goal.returns
returns c s n fits = ap (option_and_then number_value) (reads_back s (decimal n)) ∙ number_value-decimal n fits
