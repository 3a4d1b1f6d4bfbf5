-- A type that an unknown one is a part of.
use Rattle.std.proofs.Common.{◌≡◌, ◌≢◌, ◌⊎◌, inl, inr, ℕ, ◌<◌, ◌≤◌, Bool, List, Some, sym, ap, subst, arith}
use Rattle.ra_ap_intern.specs.Handle.{ref_name}
use Rattle.ra_ap_intern.specs.Name.{Name}
use Rattle.ra_ap_intern.specs.State.{State}
use Rattle.types.specs.Tree.{Tree}
use Rattle.types.specs.Types.{shape_at, unknown_shape}
use Rattle.types.specs.Unifying.{StandsFor, Solves, Agree, IsNever, two}
use Rattle.types.specs.declared.unknowns.Unknowns.{Unknowns}
use Rattle.types.specs.declared.value.TypeNode.{TypeNode}
use Rattle.types.proofs.Pairs.{Handle, size, first_less, second_less, out}
use Rattle.types.proofs.Sets.{Each}
use Rattle.types.proofs.Unifying.{unknown_is}

-- a type is a tree that is smaller than this one
abbrev IsSmaller : State TypeNode → (ℕ → Tree) → Tree → Name → Type 0
IsSmaller s v limit n = (t : Tree) × StandsFor s v n t × (size t < size limit)

agreeing : (s : State TypeNode) (v : ℕ → Tree) (limit : Tree) (n m : Name) → Agree s v n m
    → IsSmaller s v limit n → IsSmaller s v limit m
agreeing s v limit n m agree less = (less.0, (agree less.0).0 less.1, less.2)

module _ (s : State TypeNode) (old : Unknowns) (number : ℕ) (handle : Name) where
  -- a type is the handle's, or smaller wherever an unknown type is the handle's
  abbrev pub IsWithin : Name → Type 0
  IsWithin n = (n ≡ handle) ⊎ ((v : ℕ → Tree) → Solves s old v → StandsFor s v handle (v number)
      → IsSmaller s v (v number) n)

  abbrev pub AreWithin : List Handle → Type 0
  AreWithin xs = Each (λ p. IsWithin (ref_name p)) xs

  -- the unknown type itself is smaller than no solution makes it
  pub never : (n : Name) → shape_at s n ≡ Some (unknown_shape number) → n ≢ handle → IsWithin n → IsNever s old number handle
  never n at other (inl is) v solves stands = other is
  never n at other (inr smaller) v solves stands =
      let here = smaller v solves stands in
      let same = ap size (unknown_is s v n number at here.0 here.1) in
      absurd (omega (arith, here.2, same))

  -- what agrees with its parts is, too
  module _ (n a b : Name) (kind : Bool) (at : shape_at s n ≡ Some (two kind a b)) (whole : IsWithin n) where
    limited : (v : ℕ → Tree) → Solves s old v → StandsFor s v handle (v number)
        → (t : Tree) × StandsFor s v n t × (size t ≤ size (v number))
    limited v solves stands = elim whole [
      | inl is ↦ (v number, subst (λ m. StandsFor s v m (v number)) (sym is) stands, omega arith)
      | inr smaller ↦ let here = smaller v solves stands in (here.0, here.1, omega (arith, here.2))
    ]

    smaller : (v : ℕ → Tree) → Solves s old v → StandsFor s v handle (v number)
        → IsSmaller s v (v number) a × IsSmaller s v (v number) b
    smaller v solves stands =
        let t = limited v solves stands in
        let o = out s v kind n a b at t.0 t.1 in
        let sizes = ap size o.is in
        let one = first_less kind o.first o.second in
        let two = second_less kind o.first o.second in (
          (o.first, o.first_is, omega (arith, sizes, one, t.2)),
          (o.second, o.second_is, omega (arith, sizes, two, t.2)),
        )

    pub parts_within : (c d : Name) → ((v : ℕ → Tree) → Solves s old v → Agree s v a c × Agree s v b d)
        → IsWithin c × IsWithin d
    parts_within c d agree = (
      inr (λ v solves stands. agreeing s v (v number) a c (agree v solves).0 (smaller v solves stands).0),
      inr (λ v solves stands. agreeing s v (v number) b d (agree v solves).1 (smaller v solves stands).1),
    )
