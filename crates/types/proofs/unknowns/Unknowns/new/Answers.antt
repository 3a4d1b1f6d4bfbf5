use Rattle.std.proofs.Common.{refl, rules}
use Rattle.types.specs.Tree.{unknowns}
use Rattle.types.proofs.Founded.{founded_none}
use Rattle.types.proofs.unknowns.Unknowns.new.Goals as goal

-- each unknown type is itself
pub returns-clause-solvable : goal.returns-clause-solvable
returns-clause-solvable c s = (
  unknowns,
  record {
    solves = λ number handle is. absurd (search (rules, is));
    free = λ number free. refl;
  },
)

pub returns-clause-founded : goal.returns-clause-founded
returns-clause-founded c s = founded_none s _ (search rules)
