use Rattle.intern_world.proofs.Worlds.{all_keep}
use Rattle.intern_world.proofs.laws.names_keep_what_they_read.Goals as goal

pub returns : goal.returns
returns g c w end turns run = all_keep _ turns w end run
