-- Formulas as trees.
use Rattle.std.specs.Prelude.{ℕ, List, [], ◌∷◌, ◌++◌, Result, Ok, ℤ, neg_ℤ, slice_get}
use Rattle.queries.specs.declared.formula.Operator.{Operator}
use Rattle.queries.specs.declared.formula.Step.{Step}
use Rattle.queries.specs.declared.formula.Step.TheVariants.{Literal, Read, Negate, Apply}
use Rattle.queries.specs.declared.value.CellError.{CellError}
use Rattle.queries.specs.declared.value.Value.{Value}
use Rattle.queries.specs.Formula.{applied, number_read}
use Rattle.queries.specs.Value.{exact_number, and_then}

-- a number, what was read, less than nothing, or an operation on two trees
pub data Tree : Type 0 where
  number : ℤ → Tree
  read : ℕ → Tree
  negate : Tree → Tree
  apply : Operator → Tree → Tree → Tree

-- operands before what is done with them
abbrev pub postfix : Tree → List Step
postfix (number n) = Literal n ∷ []
postfix (read index) = Read index ∷ []
postfix (negate tree) = postfix tree ++ (Negate ∷ [])
postfix (apply operator left right) = postfix left ++ (postfix right ++ (Apply operator ∷ []))

-- the number of a tree that reads these values
abbrev pub tree_number : List Value → Tree → Result ℤ CellError
tree_number values (number n) = Ok n
tree_number values (read index) = number_read (slice_get values index)
tree_number values (negate tree) = and_then (tree_number values tree) (λ a. exact_number (neg_ℤ a))
tree_number values (apply operator left right) =
    and_then (tree_number values left) (λ a. and_then (tree_number values right) (applied operator a))
