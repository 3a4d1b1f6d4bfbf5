use Rattle.intern_presets.proofs.Finding.{integer_place, generated_place}
use Rattle.intern_presets.proofs.laws.numbered_lists_end.Goals as goal

pub returns-clause-integers : goal.returns-clause-integers
returns-clause-integers c = integer_place

pub returns-clause-generated : goal.returns-clause-generated
returns-clause-generated c = generated_place
