use Rattle.intern_world.proofs.Worlds.{all_collect}
use Rattle.intern_world.proofs.laws.collections_leave_what_is_reached.Goals as goal

pub returns : goal.returns
returns g c w end turns run = all_collect _ turns w end run
