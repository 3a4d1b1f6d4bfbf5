use Rattle.std.proofs.Common.{◌≡◌}
use Rattle.ra_ap_intern.specs.Handle.{name_if, ref_name}
use Rattle.ra_ap_intern.specs.Order.{end_from, line_end, steps_left}
use Rattle.ra_ap_intern.specs.Symbols.{symbol_ref_name}
use Rattle.use_paths.specs.Paths.{last_of, parent_of}
use Rattle.use_paths.proofs.first_name.Given as goal

-- the end above the next path, or the name that was seen if there is none, is that of the first
abbrev pub invariant-loop-above : goal.invariant-loop-above
invariant-loop-above l =
    end_from (symbol_ref_name l.first) (line_end parent_of last_of l.fn.paths) (name_if l.next)
    ≡ line_end parent_of last_of l.fn.paths (ref_name l.fn.path)

-- each parent has an earlier birth
abbrev pub decreases-loop-above : goal.decreases-loop-above
decreases-loop-above l = steps_left (name_if l.next)
