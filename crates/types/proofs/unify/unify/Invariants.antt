use Rattle.std.proofs.Common.{◌+◌, ◌*◌, vec_len}
use Rattle.ra_ap_intern.specs.Handle.{ref_name}
use Rattle.types.proofs.Underway.{Underway, Standing, Sound}
use Rattle.types.proofs.Unmet.{unmet_pairs}
use Rattle.types.proofs.unify.unify.Given as goal

abbrev pub invariant-loop-first : goal.invariant-loop-first
invariant-loop-first l = record {
  underway : Underway l.types l.fn.unknowns (ref_name l.left) (ref_name l.right) l.unknowns l.open.items l.met.keys;
  standing : Standing l.types l.fn.unknowns (ref_name l.left) (ref_name l.right) l.unknowns l.open.items;
  sound : Sound l.types l.fn.unknowns (ref_name l.left) (ref_name l.right) l.unknowns l.open.items;
}

-- a pair is taken away, or it is met for the first time, and two are put in its place
abbrev pub decreases-loop-first : goal.decreases-loop-first
decreases-loop-first l = 2 * unmet_pairs l.types l.met.keys + vec_len l.open
