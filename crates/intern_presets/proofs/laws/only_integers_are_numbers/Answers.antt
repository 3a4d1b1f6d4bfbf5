use Rattle.intern_presets.proofs.Parsed.{number_value-decimal}
use Rattle.intern_presets.proofs.Standing.{no_number}
use Rattle.intern_presets.proofs.laws.only_integers_are_numbers.Goals as goal

pub returns-clause-integers : goal.returns-clause-integers
returns-clause-integers c = number_value-decimal

pub returns-clause-others : goal.returns-clause-others
returns-clause-others c p le t = no_number p t le
