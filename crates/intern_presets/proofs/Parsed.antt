-- What std's `parse` reads is the number that a text writes.
use Rattle.std.proofs.Common.{◌≡◌, ℕ, ◌<◌, ◌^◌, Bool, true, false, ◌&&◌, cond, List, [], ◌∷◌, Some, None, Result, Ok, Err, nat_lt, refl, sym, ap, ◌∙◌, arith, decimal, true≢false}
use Rattle.std.specs.Char.{is_digit, digit_value}
use Rattle.std.specs.List.{list_all}
use Rattle.std.specs.Result.{result_ok}
use Rattle.std.specs.Str.Parse.{digits_value, without_leading_plus, ParsesUnsigned, AllDigits, IsNumeral}
use Rattle.std.proofs.lemmas.Bool.{and_parts, and_from, ltb-true, lt-ltb}
use Rattle.std.proofs.lemmas.Fmt.{parse-decimal}
use Rattle.intern_presets.specs.Numbers.{are_digits, digits_number, number_value}

all_digits : (cs : List ℕ) → list_all (λ b. is_digit b 10) cs ≡ true → AllDigits 10 cs
all_digits [] h = tt
all_digits (c ∷ cs) h =
    let parts = and_parts (is_digit c 10) (list_all (λ b. is_digit b 10) cs) h in
    (ltb-true (digit_value c) 10 parts.0, all_digits cs parts.1)

all_test : (cs : List ℕ) → AllDigits 10 cs → list_all (λ b. is_digit b 10) cs ≡ true
all_test [] h = refl
all_test (c ∷ cs) h = and_from _ _ (lt-ltb (digit_value c) 10 h.0) (all_test cs h.1)

numeral : (ds : List ℕ) → are_digits ds ≡ true → IsNumeral 10 ds
numeral [] h = absurd (true≢false (sym h))
numeral (c ∷ cs) h = (omega arith, all_digits (c ∷ cs) h)

numeral_test : (ds : List ℕ) → IsNumeral 10 ds → are_digits ds ≡ true
numeral_test [] h = absurd (omega (arith, h.0))
numeral_test (c ∷ cs) h = all_test (c ∷ cs) h.1

module _ (ds : List ℕ) where
  -- the digits write a number of 64 bits
  abbrev Fits : Type 0
  Fits = IsNumeral 10 ds × (digits_value 10 ds < 2 ^ 64)

  -- and the test for it
  abbrev fits : Bool
  fits = are_digits ds && nat_lt (digits_value 10 ds) (2 ^ 64)

  fits_true : Fits → fits ≡ true
  fits_true h = and_from _ _ (numeral_test ds h.0) (lt-ltb (digits_value 10 ds) (2 ^ 64) h.1)

  fits_shown : fits ≡ true → Fits
  fits_shown e =
      let parts = and_parts (are_digits ds) (nat_lt (digits_value 10 ds) (2 ^ 64)) e in
      (numeral ds parts.0, ltb-true (digits_value 10 ds) (2 ^ 64) parts.1)

  -- a number that is read, and a text that is none
  read : Fits → digits_number ds ≡ Some (digits_value 10 ds)
  read h = ap (λ b. cond b (Some (digits_value 10 ds)) None) (fits_true h)

  not_read : (Fits → ⊥) → digits_number ds ≡ None
  not_read refused = by fits refl
    where
      by : (b : Bool) → fits ≡ b → cond b (Some (digits_value 10 ds)) None ≡ None
      by true e = absurd (refused (fits_shown e))
      by false e = refl

-- what `parse` answers is the number that the text writes
pub parse_reads : {E : Type 0} (text : List ℕ) (r : Result ℕ E) → ParsesUnsigned 64 10 text r → result_ok r ≡ number_value text
unfolding number_value
parse_reads text (Ok n) h = ap Some h.1 ∙ sym (read (without_leading_plus text) h.0)
parse_reads text (Err e) h = sym (not_read (without_leading_plus text) h)

-- the digits of a number write it
pub number_value-decimal : (n : ℕ) → n < 2 ^ 64 → number_value (decimal n) ≡ Some n
unfolding number_value
number_value-decimal n below = by (fits ds) refl
  where
    ds : List ℕ
    ds = without_leading_plus (decimal n)

    told : (r : Result ℕ ℕ) → ParsesUnsigned 64 10 (decimal n) r → r ≡ Ok n
    told r h = parse-decimal 64 n (decimal n) r below below refl h

    by : (b : Bool) → fits ds ≡ b → digits_number ds ≡ Some n
    by true e =
        let r : Result ℕ ℕ = Ok (digits_value 10 ds) in
        let is : r ≡ Ok n = told r (fits_shown ds e, refl) in
        read ds (fits_shown ds e) ∙ ap Some (cc is)
    by false e =
        let r : Result ℕ ℕ = Err 0 in
        let is : r ≡ Ok n = told r (λ h. absurd (true≢false (sym (fits_true ds h) ∙ e))) in
        absurd (cc is)
