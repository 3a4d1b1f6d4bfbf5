-- The number that a text writes.
use Rattle.std.specs.Prelude.{ℕ, ◌^◌, Bool, false, ◌&&◌, List, [], ◌∷◌, Option, Some, None, nat_lt, if◌then◌else◌}
use Rattle.std.specs.Char.{is_digit}
use Rattle.std.specs.List.{list_all}
use Rattle.std.specs.Str.Parse.{digits_value, without_leading_plus}

-- one decimal digit or more, and nothing else
abbrev pub are_digits : List ℕ → Bool
are_digits [] = false
are_digits (c ∷ cs) = list_all (λ b. is_digit b 10) (c ∷ cs)

-- the number that digits write, where it is below 2 ^ 64
abbrev pub digits_number : List ℕ → Option ℕ
digits_number ds =
    if are_digits ds && nat_lt (digits_value 10 ds) (2 ^ 64) then Some (digits_value 10 ds)
    else None

-- the number that an optional '+' and then digits write, where it is below 2 ^ 64
unfoldable pub number_value : List ℕ → Option ℕ
number_value text = digits_number (without_leading_plus text)
