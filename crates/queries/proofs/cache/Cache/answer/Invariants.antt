use Rattle.std.proofs.Common.{◌∷◌}
use Rattle.ra_ap_intern.specs.Interning.{ReadsOn}
use Rattle.queries.specs.Cache.{CountsOn, IsCache}
use Rattle.queries.specs.Path.{IsFrame, IsPath}
use Rattle.queries.specs.Steps.{steps_left}
use Rattle.queries.proofs.cache.Cache.answer.Given as goal

-- the path leads from the query that was asked for to the one that is computed
abbrev pub invariant-steps : goal.invariant-steps
invariant-steps l = record {
  cache : IsCache l.fn.sheet l.self;
  on : ReadsOn l.fn.self.keys l.self.keys;
  counts : CountsOn l.fn.self.counts l.self.counts;
  frame : IsFrame l.fn.sheet l.self.keys l.top;
  path : IsPath l.fn.sheet l.self.keys l.fn.root l.path.frames.items l.top.key;
}

abbrev pub decreases-steps : goal.decreases-steps
decreases-steps l = steps_left l.fn.sheet l.fn.root l.self (l.top ∷ l.path.frames.items)
