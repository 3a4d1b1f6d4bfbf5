use Rattle.std.proofs.Common.{nat_eq}
use Rattle.std.proofs.lemmas.Bool.{eqb-true, eq-eqb}
use Rattle.ra_ap_intern.proofs.CallerLemmas.{sliced_same}
use Rattle.use_lists.proofs.equal_lists_are_the_same.Goals as goal

pub returns : goal.returns
returns c =
    sliced_same nat_eq nat_eq (λ a b. (eqb-true a b, eq-eqb a b)) (λ a b. (eqb-true a b, eq-eqb a b))
