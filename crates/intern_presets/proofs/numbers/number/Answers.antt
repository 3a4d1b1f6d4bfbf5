use Rattle.std.proofs.Common.{◌∙◌}
use Rattle.intern_presets.proofs.Parsed.{parse_reads}
use Rattle.intern_presets.proofs.numbers.number.Goals as goal

pub returns : goal.returns
returns c = c.ok.ensures.value ∙ parse_reads _ _ c.parse.ensures.value.0
