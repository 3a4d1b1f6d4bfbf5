use Rattle.std.proofs.Common.{◌≡◌, ℕ, ◌<◌}
use Rattle.std.specs.Prelude.{slice_index_or}
use Rattle.ra_ap_intern.specs.Handle.{ref_name}
use Rattle.queries.specs.declared.path.Frame.{Frame}
use Rattle.queries.proofs.path.is_among.Given as goal

-- no query before this one is it
abbrev pub invariant-loop-frame : goal.invariant-loop-frame
invariant-loop-frame l =
    (k : ℕ) (d : Frame) → k < l.frame-index
    → ref_name (slice_index_or l.frames k d).handle ≡ ref_name l.handle → ⊥
