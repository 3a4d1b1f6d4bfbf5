-- The entries of a map of births, in their order.
use Rattle.std.proofs.Common.{◌≡◌, ◌⊎◌, inl, inr, ℕ, ◌<◌, Bool, true, false, ◌&&◌, List, [], ◌∷◌, Some, Equal, Greater, refl, ◌∙◌, arith}
use Rattle.std.specs.Prelude.{T}
use Rattle.std.specs.Ordering.{nat_cmp, is_lt}
use Rattle.std.specs.Cmp.{nat_cmp_is}
use Rattle.std.specs.FinMap.{find, put}
use Rattle.std.specs.FinMap.Entries.{below_all}
use Rattle.std.proofs.lemmas.Bool.Decides.{nat_tests}
use Rattle.std.proofs.lemmas.Grind.{common_steps}
use Rattle.intern_store.proofs.Compared.{tied}

pub parts : (a b : Bool) → T (a && b) → T a × T b
parts true b both = (tt, both)
parts false b both = absurd both

pub less : (x y : ℕ) → T (is_lt (nat_cmp x y)) → x < y
less x y is = grind (arith, common_steps)

module _ {X : Type 0} where
  pub at_head : (e : ℕ × X) (es : List (ℕ × X)) → find nat_cmp e.0 (e ∷ es) ≡ Some e.1
  at_head e es = grind (arith, nat_tests, tied)

  pub behind_head : (b : ℕ) (e : ℕ × X) (es : List (ℕ × X)) → e.0 < b → find nat_cmp b (e ∷ es) ≡ find nat_cmp b es
  behind_head b e es above = grind (arith, nat_tests, tied)

  pub put_at_head : (e : ℕ × X) (y : X) (es : List (ℕ × X)) → put nat_cmp e.0 y (e ∷ es) ≡ (e.0, y) ∷ es
  put_at_head e y es = grind (arith, nat_cmp_is e.0 e.0 Equal refl)

  pub put_behind : (b : ℕ) (y : X) (e : ℕ × X) (es : List (ℕ × X)) → e.0 < b → put nat_cmp b y (e ∷ es) ≡ e ∷ put nat_cmp b y es
  put_behind b y e es above = grind (arith, nat_cmp_is b e.0 Greater above)

  pub found : (b : ℕ) (x : X) (e : ℕ × X) (es : List (ℕ × X)) → find nat_cmp b (e ∷ es) ≡ Some x → ((b ≡ e.0) × (e.1 ≡ x)) ⊎ (find nat_cmp b es ≡ Some x)
  found b x e es is = grind (arith, nat_tests, tied)

  pub above_all : (a b : ℕ) (x : X) (es : List (ℕ × X)) → T (below_all nat_cmp a es) → find nat_cmp b es ≡ Some x → a < b
  above_all a b x [] below is = absurd (cc)
  above_all a b x (e ∷ es) below is =
      let under = parts _ _ below in
      elim (found b x e es is) [
        | inl first ↦ let head = less a e.0 under.0 in omega (arith, first.0)
        | inr later ↦ above_all a b x es under.1 later
      ]

  -- what is found behind the head
  pub later : (b : ℕ) (x : X) (e : ℕ × X) (es : List (ℕ × X)) → T (below_all nat_cmp e.0 es) → find nat_cmp b es ≡ Some x → find nat_cmp b (e ∷ es) ≡ Some x
  later b x e es below is = behind_head b e es (above_all e.0 b x es below is) ∙ is
