use Rattle.ra_ap_intern.proofs.Texts.{reads_back}
use Rattle.ra_ap_intern.proofs.laws.a_symbol_reads_its_text.Goals as goal

pub returns : goal.returns
returns c = reads_back
