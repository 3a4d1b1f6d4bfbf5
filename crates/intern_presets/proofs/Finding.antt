-- The place that a text has is the one at which it stands.
use Rattle.std.proofs.Common.{◌≡◌, ℕ, zero, suc, ◌+◌, ◌^◌, ◌<◌, ◌≤◌, Bool, true, false, cond, List, [], ◌∷◌, Option, Some, None, IsSome, refl, sym, ap, subst, ◌∙◌, arith, inl, inr, ⊎_elim, ◌↔◌, true≢false, nat_lt, decimal}
use Rattle.std.specs.List.{find, range_with_len}
use Rattle.std.specs.Option.{option_eq}
use Rattle.std.specs.Str.{bytes_eq}
use Rattle.std.proofs.lemmas.Bool.{cases_eq, cases_lt, lt-ltb, le-ltb}
use Rattle.std.proofs.lemmas.Option.{none-some}
use Rattle.std.proofs.lemmas.Slice.Eq.{bytes_eq-Decides}
use Rattle.std.proofs.lemmas.Fmt.{decimal_injective}
use Rattle.intern_presets.specs.Numbers.{number_value}
use Rattle.intern_presets.specs.Presets.{generated_text, number_of_presets, preset_text, place_of}
use Rattle.intern_presets.proofs.Parsed.{number_value-decimal}
use Rattle.intern_presets.proofs.Standing.{Stands, stands, is_preset, at_low, no_number, generated_no_number, generated_injective, middle_is_not_high, one_place, ends}

module _ (test : ℕ → Bool) where
  -- what is found passes
  passes : (xs : List ℕ) (p : ℕ) → find test xs ≡ Some p → test p ≡ true
  passes [] p e = absurd (none-some p e)
  passes (x ∷ xs) p e = go (passes xs p) (test x) refl e
    where
      go : (find test xs ≡ Some p → test p ≡ true) → (t : Bool) → test x ≡ t → cond t (Some x) (find test xs) ≡ Some p → test p ≡ true
      go rest true is e = let same : x ≡ p = cc e in subst (λ y. test y ≡ true) same is
      go rest false is e = rest e

  -- where nothing is found among n numbers from a on, none of them passes
  fail : (a n p : ℕ) → find test (range_with_len a n) ≡ None → a ≤ p → p < a + n → test p ≡ false
  fail a zero p e above below = absurd (omega (arith, above, below))
  fail a (suc n) p e above below = go (fail (a + 1) n p) (test a) refl e
    where
      go : (find test (range_with_len (a + 1) n) ≡ None → a + 1 ≤ p → p < a + 1 + n → test p ≡ false) → (t : Bool) → test a ≡ t → cond t (Some a) (find test (range_with_len (a + 1) n)) ≡ None → test p ≡ false
      go rest true is e = absurd (none-some a (sym e))
      go rest false is e =
          elim (cases_eq p a) [
            | inl same ↦ ap test same ∙ is
            | inr differs ↦ rest e (omega (arith, above, differs)) (omega (arith, below))
          ]

-- the test of a place is whether the text stands there
pub stands_at : (o : Option (List ℕ)) (t : List ℕ) → option_eq bytes_eq o (Some t) ≡ true → o ≡ Some t
stands_at None t e = absurd (true≢false (sym e))
stands_at (Some u) t e = ap Some ((bytes_eq-Decides u t).0 e)

standing : (o : Option (List ℕ)) (t : List ℕ) → o ≡ Some t → option_eq bytes_eq o (Some t) ≡ true
standing None t e = absurd (none-some t e)
standing (Some u) t e = let same : u ≡ t = cc e in (bytes_eq-Decides u t).1 same

pub place_is : (t : List ℕ) (p : ℕ) → (place_of t ≡ Some p) ↔ (preset_text p ≡ Some t)
unfolding place_of
place_is t p = (λ e. stands_at _ t (passes (λ q. option_eq bytes_eq (preset_text q) (Some t)) (range_with_len 0 number_of_presets) p e), λ at. found (find (λ q. option_eq bytes_eq (preset_text q) (Some t)) (range_with_len 0 number_of_presets)) refl at)
  where
    found : (o : Option ℕ) → find (λ q. option_eq bytes_eq (preset_text q) (Some t)) (range_with_len 0 number_of_presets) ≡ o → preset_text p ≡ Some t → o ≡ Some p
    found (Some q) e at = ap Some (one_place q p t (stands_at _ t (passes (λ q. option_eq bytes_eq (preset_text q) (Some t)) (range_with_len 0 number_of_presets) q e)) at)
    found None e at =
        let below : p < number_of_presets = (ends p).0 (subst IsSome (sym at) refl) in
        absurd (true≢false (sym (standing _ t at) ∙ fail (λ q. option_eq bytes_eq (preset_text q) (Some t)) 0 number_of_presets p e (omega arith) (omega (arith, below))))

-- what is at each place where the text stands, and at no other, is its place
pub determined : (t : List ℕ) (r : Option ℕ) → ((p : ℕ) → (r ≡ Some p) ↔ (preset_text p ≡ Some t)) → r ≡ place_of t
determined t (Some p) is = sym ((place_is t p).1 ((is p).0 refl))
determined t None is = go (place_of t) refl
  where
    go : (o : Option ℕ) → place_of t ≡ o → None ≡ o
    go None e = refl
    go (Some p) e = absurd (none-some p ((is p).1 ((place_is t p).0 e)))

-- the place of an integer's digits, and of a generated name
no_place : (t : List ℕ) → ((p : ℕ) → Stands p t → ⊥) → place_of t ≡ None
no_place t nowhere = go (place_of t) refl
  where
    go : (o : Option ℕ) → place_of t ≡ o → o ≡ None
    go None e = refl
    go (Some p) e = absurd (nowhere p (stands p t ((place_is t p).0 e)))

pub integer_place : (n : ℕ) → n < 2 ^ 64 → place_of (decimal n) ≡ cond (nat_lt n 256) (Some n) None
integer_place n fits = ⊎_elim low high (cases_lt n 256)
  where
    low : n < 256 → place_of (decimal n) ≡ cond (nat_lt n 256) (Some n) None
    low lt = (place_is (decimal n) n).1 (at_low n lt) ∙ ap (λ b. cond b (Some n) None) (sym (lt-ltb n 256 lt))

    other : 256 ≤ n → (p : ℕ) → Stands p (decimal n) → ⊥
    other le p (inl s) = let same = decimal_injective n p fits (omega (arith, s.0)) s.1 in absurd (omega (arith, same, le, s.0))
    other le p (inr s) =
        let above : 256 ≤ p = ⊎_elim (λ m. omega (arith, m.1)) (λ i. omega (arith, i.1)) s in
        let number = number_value-decimal n fits in
        let none = no_number p (decimal n) above (is_preset p (decimal n) (inr s)) in
        absurd (cc)

    high : 256 ≤ n → place_of (decimal n) ≡ cond (nat_lt n 256) (Some n) None
    high le = no_place (decimal n) (other le) ∙ ap (λ b. cond b (Some n) None) (sym (le-ltb n 256 le))

pub generated_place : (n : ℕ) → n < 2 ^ 64 → place_of (generated_text n) ≡ cond (nat_lt n 256) (Some (n + 256)) None
generated_place n fits = ⊎_elim low high (cases_lt n 256)
  where
    low : n < 256 → place_of (generated_text n) ≡ cond (nat_lt n 256) (Some (n + 256)) None
    low lt = (place_is (generated_text n) (n + 256)).1 (is_preset _ _ (inr (inl (n, refl, lt, refl)))) ∙ ap (λ b. cond b (Some (n + 256)) None) (sym (lt-ltb n 256 lt))

    other : 256 ≤ n → (p : ℕ) → Stands p (generated_text n) → ⊥
    other le p (inl s) =
        let number = ap number_value s.1 ∙ number_value-decimal p (omega (arith, s.0)) in
        let none = generated_no_number n in
        absurd (cc)
    other le p (inr (inl s)) =
        let same = decimal_injective n s.0 fits (omega (arith, s.2)) (generated_injective s.0 (decimal n) s.3) in
        absurd (omega (arith, same, le, s.2))
    other le p (inr (inr s)) = middle_is_not_high (decimal n) s.0 (generated_text n) refl s.2

    high : 256 ≤ n → place_of (generated_text n) ≡ cond (nat_lt n 256) (Some (n + 256)) None
    high le = no_place (generated_text n) (other le) ∙ ap (λ b. cond b (Some (n + 256)) None) (sym (le-ltb n 256 le))
