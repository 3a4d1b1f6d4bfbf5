use Rattle.intern_world.proofs.Along.{step_distinct}
use Rattle.intern_world.proofs.turns.turn.Goals as goal

pub learn-requires : goal.learn-requires
learn-requires g c =
    record { distinct = step_distinct _ _ _ _ _ c.apply-reply.ensures.step c.requires.distinct }
