use Rattle.ra_ap_intern.proofs.Births.{birth-fresh, next-given, next-stored, next-released}
use Rattle.ra_ap_intern.proofs.laws.a_birth_is_given_once.Goals as goal

pub returns-clause-fresh : goal.returns-clause-fresh
returns-clause-fresh g c = birth-fresh g.T.PartialEq.eq

pub returns-clause-given : goal.returns-clause-given
returns-clause-given g c = next-given g.T.PartialEq.eq

pub returns-clause-stored : goal.returns-clause-stored
returns-clause-stored g c = next-stored g.T.PartialEq.eq

pub returns-clause-released : goal.returns-clause-released
returns-clause-released g c = λ s stays. next-released stays s
