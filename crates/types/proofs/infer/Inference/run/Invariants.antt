use Rattle.types.specs.Growing.{Grows}
use Rattle.types.proofs.infer.Inference.run.Given as goal

-- the environment has grown at most
abbrev pub invariant-loop-step : goal.invariant-loop-step
invariant-loop-step l = Grows l.fn.self.environment l.self.environment
