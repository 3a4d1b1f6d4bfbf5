use Rattle.intern_world.proofs.Worlds.{all_tell}
use Rattle.intern_world.proofs.laws.handles_tell_values_along_runs.Goals as goal

pub returns : goal.returns
returns g c w end turns run = all_tell _ c.names_tell_values.ensures
    c.names_tell_values-2.ensures c.names_tell_slices.ensures c.symbols_tell_texts.ensures
    turns w end run
