use Rattle.std.proofs.Common.{◌≡◌, ◌≤◌, vec_len, vec_capacity}
use Rattle.use_owed.specs.Scope.{last_first, closed}
use Rattle.use_owed.proofs.Scope.close.Given as goal

-- closing what is left ends as closing all
abbrev pub invariant-loop-name : goal.invariant-loop-name
invariant-loop-name l =
    (closed l.texts (last_first l.names.items)
    ≡ closed l.initial.texts (last_first l.initial.names.items))
    × (vec_len l.names ≤ vec_capacity l.names)

abbrev pub decreases-loop-name : goal.decreases-loop-name
decreases-loop-name l = vec_len l.names
