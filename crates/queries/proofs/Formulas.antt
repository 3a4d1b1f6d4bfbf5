-- Operations at the end of a stack.
use Rattle.std.proofs.Common.{◌≡◌, ◌∷◌, [], ◌++◌, List, Result, Err, reverse, sym, ap, ◌∙◌}
use Rattle.std.specs.Prelude.{ℤ}
use Rattle.std.proofs.lemmas.List.{reverse-append}
use Rattle.queries.specs.declared.formula.Operator.{Operator}
use Rattle.queries.specs.declared.formula.Step.{Step}
use Rattle.queries.specs.declared.formula.Step.TheVariants.{Apply}
use Rattle.queries.specs.declared.value.CellError.{CellError}
use Rattle.queries.specs.declared.value.CellError.TheVariants.{Incomplete}
use Rattle.queries.specs.declared.value.Value.{Value}
use Rattle.queries.specs.Formula.{run, applied}
use Rattle.queries.specs.Value.{and_then}

-- the last number comes first
last_first : (old new : List ℤ) (n : ℤ) → old ≡ new ++ n ∷ [] → reverse old ≡ n ∷ reverse new
last_first old new n is = ap reverse is ∙ reverse-append new (n ∷ [])

module _ (values : List Value) (steps : List Step) where
  run_apply : (operator : Operator) (right left shown : ℤ) (old new : List ℤ)
      → old ≡ new ++ left ∷ [] → (r : Result ℤ CellError) → r ≡ applied operator shown right
      → shown ≡ left
      → run values (Apply operator ∷ steps) (right ∷ reverse old)
      ≡ and_then r (λ n. run values steps (n ∷ reverse new))
  run_apply operator right left shown old new is r gives same =
      ap (λ s. run values (Apply operator ∷ steps) (right ∷ s)) (last_first old new left is)
      ∙ ap (λ t. and_then t (λ n. run values steps (n ∷ reverse new)))
      (sym (gives ∙ ap (λ a. applied operator a right) same))

  module _ (operator : Operator) (step : Step) (at : step ≡ Apply operator) (right : ℤ)
      (old mid : List ℤ) (is : old ≡ mid ++ right ∷ []) where
    run_popped : run values (step ∷ steps) (reverse old)
        ≡ run values (Apply operator ∷ steps) (right ∷ reverse mid)
    run_popped = λ i. run values (at i ∷ steps) (last_first old mid right is i)

    -- where there is no second number
    pub run_one : mid ≡ [] → run values (step ∷ steps) (reverse old) ≡ Err Incomplete
    run_one none =
        run_popped ∙ ap (λ m. run values (Apply operator ∷ steps) (right ∷ reverse m)) none

    -- the last two numbers become one
    pub run_two : (left shown showing : ℤ) (new : List ℤ) → mid ≡ new ++ left ∷ []
        → (r : Result ℤ CellError) → r ≡ applied operator shown showing → shown ≡ left
        → showing ≡ right
        → run values (step ∷ steps) (reverse old) ≡ and_then r (λ n. run values steps (n ∷ reverse new))
    run_two left shown showing new more r gives first second =
        run_popped
        ∙ run_apply operator right left shown mid new more r (gives ∙ ap (applied operator shown) second)
        first
