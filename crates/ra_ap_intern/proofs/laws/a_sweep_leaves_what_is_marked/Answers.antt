use Rattle.intern_store.proofs.Compared.{get-retained}
use Rattle.ra_ap_intern.proofs.laws.a_sweep_leaves_what_is_marked.Goals as goal

pub returns : goal.returns
returns g c = λ s. get-retained s.map
