-- A choice by whether two numbers are equal.
use Rattle.std.proofs.Common.{◌≡◌, ◌≢◌, ℕ, cond, nat_eq, ap}
use Rattle.std.proofs.lemmas.Bool.{eq-eqb, ne_eqb}

module _ {X : Type 0} (q b : ℕ) (x y : X) where
  pub here : q ≡ b → cond (nat_eq q b) x y ≡ x
  here e = ap (λ t. cond t x y) (eq-eqb q b e)

  pub away : q ≢ b → cond (nat_eq q b) x y ≡ y
  away e = ap (λ t. cond t x y) (ne_eqb q b e)
