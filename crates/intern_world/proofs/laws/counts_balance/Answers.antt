use Rattle.intern_world.proofs.Ledger.{all_balance}
use Rattle.intern_world.proofs.laws.counts_balance.Goals as goal

pub returns : goal.returns
returns g c w end turns run = all_balance _ turns w end run
