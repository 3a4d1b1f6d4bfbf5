use Rattle.std.proofs.Common.{◌≡◌, ℕ, ◌-◌, Some, length}
use Rattle.ra_ap_intern.specs.Handle.{ref_name}
use Rattle.types.specs.Founded.{Ends, IsFounded, IsOver, known_types}
use Rattle.types.specs.Tree.{Tree}
use Rattle.types.specs.Types.{shape_at, unknown_shape}
use Rattle.types.specs.Unifying.{Agree, Solves}
use Rattle.types.proofs.unknowns.Unknowns.resolve.Given as goal

-- the handle agrees with the one that was given, and the turns that are left lead to the end
abbrev pub invariant-loop : goal.invariant-loop
invariant-loop l = record {
  agrees : (v : ℕ → Tree) → Solves l.types l.self v → Agree l.types v (ref_name l.fn.handle) (ref_name l.handle);
  ends : IsFounded l.types (known_types l.self) → (number : ℕ)
      → shape_at l.types (ref_name l.handle) ≡ Some (unknown_shape number)
      → Ends l.types (known_types l.self) (length (known_types l.self) - l.counter) number;
  over : IsFounded l.types (known_types l.self) → IsOver l.types (known_types l.self) (ref_name l.fn.handle)
      → IsOver l.types (known_types l.self) (ref_name l.handle);
}
