use Rattle.std.proofs.Common.{◌≡◌, ◌+◌, ◌*◌, vec_len}
use Rattle.ra_ap_intern.specs.Handle.{ref_name}
use Rattle.types.specs.Founded.{IsFounded, known_types}
use Rattle.types.proofs.Founded.{IsReady}
use Rattle.types.proofs.Searching.{Walked}
use Rattle.types.proofs.Sets.{Each}
use Rattle.types.proofs.Unmet.{unmet_types}
use Rattle.types.proofs.unify.bind.Given as goal

abbrev pub invariant-loop-part : goal.invariant-loop-part
invariant-loop-part l = record {
  walked : Walked l.types l.fn.unknowns l.number (ref_name l.handle) l.unknowns l.open.items l.met.keys;
  known : known_types l.unknowns ≡ known_types l.fn.unknowns;
  ready : IsFounded l.types (known_types l.fn.unknowns) → IsReady l.types (known_types l.fn.unknowns) l.handle
      → Each (IsReady l.types (known_types l.fn.unknowns)) l.open.items;
}

-- a part is taken away, or it is met for the first time, and its two parts are put in its place
abbrev pub decreases-loop-part : goal.decreases-loop-part
decreases-loop-part l = 2 * unmet_types l.types l.met.keys + vec_len l.open
