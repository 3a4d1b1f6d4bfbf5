-- Exact numbers, and what functions make of values.
use Rattle.std.specs.Prelude.{ℕ, ◌*◌, ◌^◌, Bool, List, [], ◌∷◌, Option, None, Some, Result, Ok, Err, ℤ, pos, negsuc, ◌+ℤ◌, ◌≤ℤ◌, neg_ℤ, nat_lt, if◌then◌else◌}
use Rattle.std.specs.Int.{int_max, int_min}
use Rattle.queries.specs.declared.key.Function.{Function}
use Rattle.queries.specs.declared.key.Function.TheVariants.{Sum, Min, Max, Count}
use Rattle.queries.specs.declared.value.CellError.{CellError}
use Rattle.queries.specs.declared.value.CellError.TheVariants.{Overflow}
use Rattle.queries.specs.declared.value.Value.{Value}
use Rattle.queries.specs.declared.value.Value.TheVariants.{Empty, Number, Error}

-- whether a number fits 64 bits
abbrev pub fits : ℤ → Bool
fits (pos n) = nat_lt n (2 ^ 63)
fits (negsuc n) = nat_lt n (2 ^ 63)

-- the number itself, or that it doesn't fit
abbrev pub exact_number : ℤ → Result ℤ CellError
exact_number n = if fits n then Ok n else Err Overflow

-- a value as a number: an empty cell is zero, and an error passes on
abbrev pub number_of : Value → Result ℤ CellError
number_of Empty = Ok (pos 0)
number_of (Number n) = Ok n
number_of (Error e) = Err e

-- and back
abbrev pub value_of : Result ℤ CellError → Value
value_of (Ok n) = Number n
value_of (Err e) = Error e

-- what follows a number, if there is one
abbrev pub and_then : {X Y : Type 0} → Result X CellError → (X → Result Y CellError) → Result Y CellError
and_then (Ok n) next = next n
and_then (Err e) next = Err e

-- a number is at most what so many numbers of 64 bits come to
abbrev pub IsWithin : ℕ → ℤ → Type 0
IsWithin count n = (neg_ℤ (pos (count * 2 ^ 63)) ≤ℤ n) × (n ≤ℤ pos (count * 2 ^ 63))

-- a function of the numbers so far, and one more
abbrev pub included : Function → Option ℤ → ℤ → ℤ
included Sum None n = n
included Min None n = n
included Max None n = n
included Count None n = pos 1
included Sum (Some m) n = m +ℤ n
included Min (Some m) n = int_min m n
included Max (Some m) n = int_max m n
included Count (Some m) n = m +ℤ pos 1

-- a function of numbers: empty cells are passed over, and of no numbers it is zero
abbrev pub total_from : Function → Option ℤ → List Value → Result ℤ CellError
total_from f None [] = Ok (pos 0)
total_from f (Some m) [] = exact_number m
total_from f so_far (Empty ∷ values) = total_from f so_far values
total_from f so_far (Number n ∷ values) = total_from f (Some (included f so_far n)) values
total_from f so_far (Error e ∷ values) = Err e

abbrev pub total_of : Function → List Value → Result ℤ CellError
total_of f values = total_from f None values
