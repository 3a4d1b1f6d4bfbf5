use Rattle.ra_ap_intern.proofs.Texts.{told}
use Rattle.ra_ap_intern.proofs.laws.symbols_tell_texts.Goals as goal

pub returns : goal.returns
returns c = told
