use Rattle.std.proofs.Common.{◌≡◌}
use Rattle.ra_ap_intern.specs.Names.{has}
use Rattle.use_removed.specs.Removed.{without_removed}
use Rattle.use_removed.proofs.Nodes.give_up.Given as goal

-- what is left to give up makes of the names what all of it makes of the first
abbrev pub invariant-loop-reference : goal.invariant-loop-reference
invariant-loop-reference l =
    without_removed (has l.trace.marked) l.reference-iterator l.self.1.0
    ≡ without_removed (has l.fn.trace.marked) l.initial.reference-iterator l.fn.self.names
