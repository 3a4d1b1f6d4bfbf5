use Rattle.intern_world.proofs.Along.{keeping_later}
use Rattle.intern_world.proofs.Swept.{keeping_counts}
use Rattle.intern_world.proofs.Worlds.{keeps_names}
use Rattle.intern_world.proofs.laws.a_collection_keeps_names_and_counts.Goals as goal

pub returns-clause-names : goal.returns-clause-names
returns-clause-names g c w after roots reply ok keeps =
    keeps_names _ w after ok (keeping_later _ w roots reply after keeps)

pub returns-clause-counts : goal.returns-clause-counts
returns-clause-counts g c w after roots reply ok keeps =
    keeping_counts _ w roots reply after ok keeps
