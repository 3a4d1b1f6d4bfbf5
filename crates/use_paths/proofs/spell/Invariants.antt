use Rattle.std.proofs.Common.{◌≡◌, [], map, Some}
use Rattle.std.specs.Option.{option_map}
use Rattle.ra_ap_intern.specs.Handle.{ref_name}
use Rattle.ra_ap_intern.specs.Order.{line_rest, steps_left}
use Rattle.ra_ap_intern.specs.Symbols.{symbol_ref_name}
use Rattle.use_paths.specs.Paths.{last_of, parent_of}
use Rattle.use_paths.proofs.spell.Given as goal

-- what was seen, and what is ahead, is what was ahead at first
abbrev pub invariant-loop-next : goal.invariant-loop-next
invariant-loop-next l =
    line_rest parent_of last_of l.fn.paths (map symbol_ref_name l.names.items)
    (option_map ref_name l.next)
    ≡ line_rest parent_of last_of l.fn.paths [] (Some (ref_name l.fn.path))

-- each parent has an earlier birth
abbrev pub decreases-loop-next : goal.decreases-loop-next
decreases-loop-next l = steps_left (option_map ref_name l.next)
