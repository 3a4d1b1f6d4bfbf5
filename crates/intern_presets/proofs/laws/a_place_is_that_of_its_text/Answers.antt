use Rattle.intern_presets.proofs.Finding.{place_is}
use Rattle.intern_presets.proofs.laws.a_place_is_that_of_its_text.Goals as goal

pub returns : goal.returns
returns c = place_is
