-- A formula in postfix order comes to what its tree does.
use Rattle.std.proofs.Common.{◌≡◌, List, [], ◌∷◌, ◌++◌, Result, Ok, Err, refl, sym, ap, ◌∙◌}
use Rattle.std.specs.Prelude.{ℤ, neg_ℤ}
use Rattle.std.proofs.lemmas.List.{append_assoc, append-nil}
use Rattle.queries.specs.declared.formula.Step.{Step}
use Rattle.queries.specs.declared.formula.Step.TheVariants.{Negate, Apply}
use Rattle.queries.specs.declared.value.CellError.{CellError}
use Rattle.queries.specs.declared.value.Value.{Value}
use Rattle.queries.specs.Formula.{applied, run, formula_of}
use Rattle.queries.specs.Tree.{Tree, number, read, negate, apply, postfix, tree_number}
use Rattle.queries.specs.Value.{exact_number, value_of, and_then}

then_each : {X Y : Type 0} (r : Result X CellError) (f g : X → Result Y CellError)
    → ((x : X) → f x ≡ g x) → and_then r f ≡ and_then r g
then_each r f g same = λ i. and_then r (λ x. same x i)

then_then : {X Y Z : Type 0} (r : Result X CellError) (f : X → Result Y CellError)
    (g : Y → Result Z CellError) → and_then r (λ x. and_then (f x) g) ≡ and_then (and_then r f) g
then_then (Ok x) f g = refl
then_then (Err e) f g = refl

then_ok : {X : Type 0} (r : Result X CellError) → and_then r (λ x. Ok x) ≡ r
then_ok (Ok x) = refl
then_ok (Err e) = refl

module _ (values : List Value) where
  run_tree : (tree : Tree) (steps : List Step) (stack : List ℤ)
      → run values (postfix tree ++ steps) stack
      ≡ and_then (tree_number values tree) (λ n. run values steps (n ∷ stack))
  run_tree (number n) steps stack = refl
  run_tree (read index) steps stack = refl
  run_tree (negate tree) steps stack =
      ap (λ s. run values s stack) (append_assoc (postfix tree) (Negate ∷ []) steps)
      ∙ run_tree tree (Negate ∷ steps) stack
      ∙ then_then (tree_number values tree) (λ a. exact_number (neg_ℤ a)) (λ n. run values steps (n ∷ stack))
  run_tree (apply operator left right) steps stack =
      let whole = append_assoc (postfix left) (postfix right ++ (Apply operator ∷ [])) steps
      ∙ ap (λ s. postfix left ++ s) (append_assoc (postfix right) (Apply operator ∷ []) steps) in
      let second = λ (a : ℤ). run_tree right (Apply operator ∷ steps) (a ∷ stack)
      ∙ then_then (tree_number values right) (applied operator a) (λ n. run values steps (n ∷ stack)) in
      ap (λ s. run values s stack) whole
      ∙ run_tree left (postfix right ++ (Apply operator ∷ steps)) stack
      ∙ then_each (tree_number values left) _ _ second
      ∙ then_then (tree_number values left)
      (λ a. and_then (tree_number values right) (applied operator a)) (λ n. run values steps (n ∷ stack))

  pub formula_tree : (tree : Tree) → formula_of (postfix tree) values ≡ value_of (tree_number values tree)
  formula_tree tree =
      ap value_of (ap (λ s. run values s []) (sym (append-nil (postfix tree)))
      ∙ run_tree tree [] [] ∙ then_ok (tree_number values tree))
