use Rattle.std.proofs.Common.{ap}
use Rattle.ra_ap_intern.proofs.Answered.{same_told, same_names_left}
use Rattle.ra_ap_intern.proofs.laws.a_collection_depends_on_the_family_and_the_roots_alone.Goals as goal

pub returns-clause-told : goal.returns-clause-told
returns-clause-told g c = λ f listed names others told again first second. same_told first second

pub returns-clause-left : goal.returns-clause-left
returns-clause-left g c = λ f listed names others told again first second. ap (g.F.Family.kept f) (same_names_left first second)
