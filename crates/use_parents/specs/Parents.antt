-- When a store of paths refuses one.
use Rattle.std.specs.Prelude.{Bool, Option}
use Rattle.std.specs.Option.{option_or}
use Rattle.ra_ap_intern.specs.Order.{due_parent}
use Rattle.ra_ap_intern.specs.Refusal.{Refusal}
use Rattle.ra_ap_intern.specs.State.{State, due_interning, any_count}
use Rattle.use_paths.specs.Paths.{parent_of}
use Rattle.use_paths.specs.declared.Path.{Path}

-- the refusal of a call that stores a path, before want of memory
abbrev pub due_path : (Path → Path → Bool) → State Path → Path → Option Refusal
due_path eq s path = option_or (due_parent s (parent_of path)) (due_interning eq s path any_count)
