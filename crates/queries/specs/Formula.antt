-- What formulas come to.
use Rattle.std.specs.Prelude.{List, [], ◌∷◌, Option, None, Some, Result, Ok, Err, ℤ, pos, ◌+ℤ◌, ◌-ℤ◌, ◌*ℤ◌, neg_ℤ, int_div, slice_get, if◌then◌else◌, refl}
use Rattle.std.specs.Coded.{Coded, code_by, coded_list, coded×}
use Rattle.std.specs.Ordering.{int_eq}
use Rattle.queries.specs.declared.formula.Operator.{Operator}
use Rattle.queries.specs.declared.formula.Operator.TheVariants.{Add, Subtract, Multiply, Divide}
use Rattle.queries.specs.declared.formula.Step.{Step}
use Rattle.queries.specs.declared.formula.Step.TheVariants.{Literal, Read, Negate, Apply}
use Rattle.queries.specs.declared.key.Key.{Key}
use Rattle.queries.specs.declared.value.CellError.{CellError}
use Rattle.queries.specs.declared.value.CellError.TheVariants.{DivisionByZero, Incomplete}
use Rattle.queries.specs.declared.value.Value.{Value}
use Rattle.queries.specs.Value.{exact_number, number_of, value_of, and_then}

-- what is read, and the steps in postfix order
pub record Postfix : Type 0 where
  pub reads : List Key
  pub steps : List Step

abbrev pub postfix_code : Coded Key → Coded Step → Coded Postfix
postfix_code key step =
    code_by (List Key × List Step) (coded× (coded_list key) (coded_list step))
    (λ p. (p.reads, p.steps)) (λ p. record { reads = p.0; steps = p.1 }) (λ _. refl)

-- the number of an operation
abbrev pub applied : Operator → ℤ → ℤ → Result ℤ CellError
applied Add a b = exact_number (a +ℤ b)
applied Subtract a b = exact_number (a -ℤ b)
applied Multiply a b = exact_number (a *ℤ b)
applied Divide a b = if int_eq b (pos 0) then Err DivisionByZero else exact_number (int_div a b)

-- the value that was read at an index
abbrev pub number_read : Option Value → Result ℤ CellError
number_read None = Err Incomplete
number_read (Some v) = number_of v

module _ (values : List Value) where
  -- the number of the last step, from the numbers before it, the last one first
  abbrev pub run : List Step → List ℤ → Result ℤ CellError
  run [] [] = Err Incomplete
  run [] (n ∷ stack) = Ok n
  run (Literal n ∷ steps) stack = run steps (n ∷ stack)
  run (Read index ∷ steps) stack =
      and_then (number_read (slice_get values index)) (λ n. run steps (n ∷ stack))
  run (Negate ∷ steps) [] = Err Incomplete
  run (Negate ∷ steps) (a ∷ stack) = and_then (exact_number (neg_ℤ a)) (λ n. run steps (n ∷ stack))
  run (Apply operator ∷ steps) [] = Err Incomplete
  run (Apply operator ∷ steps) (b ∷ []) = Err Incomplete
  run (Apply operator ∷ steps) (b ∷ a ∷ stack) =
      and_then (applied operator a b) (λ n. run steps (n ∷ stack))

-- the value of a formula that reads these values
abbrev pub formula_of : List Step → List Value → Value
formula_of steps values = value_of (run values steps [])
