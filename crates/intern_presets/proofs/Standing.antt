-- The text at each place, and the place of each text.
use Rattle.std.proofs.Common.{◌≡◌, ◌≢◌, ℕ, ◌+◌, ◌-◌, ◌<◌, ◌≤◌, true, not, cond, List, ◌++◌, length, Option, Some, None, IsSome, slice_get, nat_lt, decimal, codes, refl, sym, ap, ◌∙◌, subst, arith, drop, true≢false, ◌⊎◌, inl, inr, ⊎_elim, ◌↔◌}
use Rattle.std.specs.Option.{is_none}
use Rattle.std.specs.Cmp.Lexicographic.{slice_cmp}
use Rattle.std.specs.Ordering.{nat_cmp}
use Rattle.std.proofs.lemmas.Bool.{and_parts, cases_lt, lt-ltb, le-ltb}
use Rattle.std.proofs.lemmas.Fmt.{decimal_injective}
use Rattle.std.proofs.lemmas.Option.{slice_get_within, slice_get-get_or}
use Rattle.std.proofs.lemmas.Cmp.{nat_list_cmp_total}
use Rattle.intern_presets.specs.Numbers.{number_value}
use Rattle.intern_presets.specs.Table.{table, table_length}
use Rattle.intern_presets.specs.Presets.{generated_text, number_of_presets, preset_text}
use Rattle.intern_presets.proofs.Parsed.{number_value-decimal}
use Rattle.intern_presets.proofs.Rising.{one_index}
use Rattle.intern_presets.proofs.Computed.{passes_at, starts_generated, constant_test, all_pass, table_rises, length_of_table}

-- which text stands at a place
pub at_low : (p : ℕ) → p < 256 → preset_text p ≡ Some (decimal p)
unfolding preset_text
at_low p lt = ap (λ b. cond b (Some (decimal p)) (cond (nat_lt p 512) (Some (generated_text (p - 256))) (slice_get table (p - 512)))) (lt-ltb p 256 lt)

pub at_middle : (p : ℕ) → 256 ≤ p → p < 512 → preset_text p ≡ Some (generated_text (p - 256))
unfolding preset_text
at_middle p le lt =
    ap (λ b. cond b (Some (decimal p)) (cond (nat_lt p 512) (Some (generated_text (p - 256))) (slice_get table (p - 512)))) (le-ltb p 256 le)
    ∙ ap (λ b. cond b (Some (generated_text (p - 256))) (slice_get table (p - 512))) (lt-ltb p 512 lt)

pub at_high : (p : ℕ) → 512 ≤ p → preset_text p ≡ slice_get table (p - 512)
unfolding preset_text
at_high p le =
    ap (λ b. cond b (Some (decimal p)) (cond (nat_lt p 512) (Some (generated_text (p - 256))) (slice_get table (p - 512)))) (le-ltb p 256 (omega (arith, le)))
    ∙ ap (λ b. cond b (Some (generated_text (p - 256))) (slice_get table (p - 512))) (le-ltb p 512 le)

-- what was computed of each text of the table
of_table : (i : ℕ) (t : List ℕ) → slice_get table i ≡ Some t → (is_none (number_value t) ≡ true) × (not (starts_generated t) ≡ true)
unfolding constant_test
of_table i t e = and_parts (is_none (number_value t)) (not (starts_generated t)) (passes_at constant_test table all_pass i t e)

none_from : (o : Option ℕ) → is_none o ≡ true → o ≡ None
none_from None h = refl
none_from (Some x) h = absurd (true≢false (sym h))

pub generated_no_number : (n : ℕ) → number_value (generated_text n) ≡ None
unfolding number_value
generated_no_number n = refl

-- a preset past the integers is no number
pub no_number : (p : ℕ) (t : List ℕ) → 256 ≤ p → preset_text p ≡ Some t → number_value t ≡ None
no_number p t le e = ⊎_elim middle high (cases_lt p 512)
  where
    middle : p < 512 → number_value t ≡ None
    middle lt = let is : Some (generated_text (p - 256)) ≡ Some t = sym (at_middle p le lt) ∙ e in subst (λ u. number_value u ≡ None) (cc is) (generated_no_number (p - 256))

    high : 512 ≤ p → number_value t ≡ None
    high le' = none_from (number_value t) (of_table (p - 512) t (sym (at_high p le') ∙ e)).0

-- in which of the three lists a preset stands, and where
abbrev pub Stands : ℕ → List ℕ → Type 0
Stands p t = ((p < 256) × (t ≡ decimal p)) ⊎ (((m : ℕ) × (p ≡ m + 256) × (m < 256) × (t ≡ generated_text m)) ⊎ ((i : ℕ) × (p ≡ i + 512) × (slice_get table i ≡ Some t)))

pub stands : (p : ℕ) (t : List ℕ) → preset_text p ≡ Some t → Stands p t
stands p t e = ⊎_elim low (λ le. ⊎_elim (middle le) high (cases_lt p 512)) (cases_lt p 256)
  where
    low : p < 256 → Stands p t
    low lt = let is : Some t ≡ Some (decimal p) = sym e ∙ at_low p lt in inl (lt, cc is)

    middle : 256 ≤ p → p < 512 → Stands p t
    middle le lt = let is : Some t ≡ Some (generated_text (p - 256)) = sym e ∙ at_middle p le lt in inr (inl (p - 256, omega (arith, le), omega (arith, le, lt), cc is))

    high : 512 ≤ p → Stands p t
    high le = inr (inr (p - 512, omega (arith, le), sym (at_high p le) ∙ e))

pub is_preset : (p : ℕ) (t : List ℕ) → Stands p t → preset_text p ≡ Some t
is_preset p t (inl s) = at_low p s.0 ∙ ap Some (sym s.1)
is_preset p t (inr (inl s)) =
    at_middle p (omega (arith, s.1)) (omega (arith, s.1, s.2)) ∙ ap (λ n. Some (generated_text n)) (omega (arith, s.1)) ∙ ap Some (sym s.3)
is_preset p t (inr (inr s)) = at_high p (omega (arith, s.1)) ∙ ap (λ n. slice_get table n) (omega (arith, s.1)) ∙ s.2

-- the three lists have no text in common
low_is_no_other : (p q : ℕ) (t : List ℕ) → p < 256 → t ≡ decimal p → 256 ≤ q → preset_text q ≡ Some t → ⊥
low_is_no_other p q t lt is le e =
    let number : number_value t ≡ Some p = ap number_value is ∙ number_value-decimal p (omega (arith, lt)) in
    absurd (cc (number, no_number q t le e))

begins : (ds t : List ℕ) → t ≡ codes "<ra@gennew>" ++ ds → starts_generated t ≡ true
begins ds t e = ap starts_generated e

pub middle_is_not_high : (ds : List ℕ) (i : ℕ) (t : List ℕ) → t ≡ codes "<ra@gennew>" ++ ds → slice_get table i ≡ Some t → ⊥
middle_is_not_high ds i t is e = absurd (true≢false (sym (of_table i t e).1 ∙ ap not (begins ds t is)))

pub generated_injective : (m : ℕ) (ds : List ℕ) → codes "<ra@gennew>" ++ ds ≡ generated_text m → ds ≡ decimal m
generated_injective m ds e = ap (drop 11) e

-- no text stands at two indices of the table
one_index_of_table : (i j : ℕ) (t : List ℕ) → slice_get table i ≡ Some t → slice_get table j ≡ Some t → i ≡ j
one_index_of_table i j t = one_index (slice_cmp nat_cmp) nat_list_cmp_total table table_rises t i j

-- and none at two places
pub one_place : (p q : ℕ) (t : List ℕ) → preset_text p ≡ Some t → preset_text q ≡ Some t → p ≡ q
one_place p q t at_p at_q = by (stands p t at_p) (stands q t at_q)
  where
    by : Stands p t → Stands q t → p ≡ q
    by (inl a) (inl b) = decimal_injective p q (omega (arith, a.0)) (omega (arith, b.0)) (sym a.1 ∙ b.1)
    by (inl a) (inr (inl b)) = absurd (low_is_no_other p q t a.0 a.1 (omega (arith, b.1)) at_q)
    by (inl a) (inr (inr b)) = absurd (low_is_no_other p q t a.0 a.1 (omega (arith, b.1)) at_q)
    by (inr (inl a)) (inl b) = absurd (low_is_no_other q p t b.0 b.1 (omega (arith, a.1)) at_p)
    by (inr (inr a)) (inl b) = absurd (low_is_no_other q p t b.0 b.1 (omega (arith, a.1)) at_p)
    by (inr (inl a)) (inr (inl b)) =
        let same = decimal_injective a.0 b.0 (omega (arith, a.2)) (omega (arith, b.2)) (generated_injective b.0 (decimal a.0) (sym a.3 ∙ b.3)) in
        omega (arith, same, a.1, b.1)
    by (inr (inl a)) (inr (inr b)) = absurd (middle_is_not_high (decimal a.0) b.0 t a.3 b.2)
    by (inr (inr a)) (inr (inl b)) = absurd (middle_is_not_high (decimal b.0) a.0 t b.3 a.2)
    by (inr (inr a)) (inr (inr b)) =
        let same = one_index_of_table a.0 b.0 t a.2 b.2 in
        omega (arith, same, a.1, b.1)

-- where a text stands at n, it stands there alone
module _ (text_at : ℕ → Option (List ℕ)) (one : (i j : ℕ) (t : List ℕ) → text_at i ≡ Some t → text_at j ≡ Some t → i ≡ j) where
  alone_at : (n p : ℕ) (t : List ℕ) → text_at n ≡ Some t → (Some n ≡ Some p) ↔ (text_at p ≡ Some t)
  alone_at n p t at = (λ e. let same : n ≡ p = cc e in subst (λ k. text_at k ≡ Some t) same at, λ e. ap Some (one n p t at e))

pub alone : (n p : ℕ) (t : List ℕ) → preset_text n ≡ Some t → (Some n ≡ Some p) ↔ (preset_text p ≡ Some t)
alone = alone_at preset_text one_place

pub alone_in_table : (i j : ℕ) (t : List ℕ) → slice_get table i ≡ Some t → (Some i ≡ Some j) ↔ (slice_get table j ≡ Some t)
alone_in_table = alone_at (slice_get table) one_index_of_table

-- a text that is in none of the three lists stands nowhere
pub nowhere : (p : ℕ) (t : List ℕ) → ((n : ℕ) → n < 256 → t ≢ decimal n) → ((m : ℕ) → m < 256 → t ≢ generated_text m) → ((i : ℕ) → slice_get table i ≢ Some t) → preset_text p ≡ Some t → ⊥
nowhere p t no_integer no_generated no_constant e = by (stands p t e)
  where
    by : Stands p t → ⊥
    by (inl a) = no_integer p a.0 a.1
    by (inr (inl a)) = no_generated a.0 a.2 a.3
    by (inr (inr a)) = no_constant a.0 a.2

some_from : {A : Type 0} (o : Option A) (x : A) → o ≡ Some x → IsSome o
some_from o x e = subst IsSome (sym e) refl

-- the places are those below the number of presets
pub ends : (p : ℕ) → IsSome (preset_text p) ↔ (p < number_of_presets)
ends p = (below, there)
  where
    below : IsSome (preset_text p) → p < number_of_presets
    below some = by (preset_text p) refl some
      where
        by : (o : Option (List ℕ)) → preset_text p ≡ o → IsSome o → p < number_of_presets
        by None e is = absurd (true≢false (sym is))
        by (Some t) e is = in_list (stands p t e)
          where
            in_list : Stands p t → p < number_of_presets
            in_list (inl a) = omega (arith, a.0)
            in_list (inr (inl a)) = omega (arith, a.1, a.2)
            in_list (inr (inr a)) =
                let within : a.0 < table_length = subst (λ n. a.0 < n) length_of_table (slice_get_within table a.0 t a.2) in
                omega (arith, within, a.1)

    there : p < number_of_presets → IsSome (preset_text p)
    there lt = ⊎_elim low (λ le. ⊎_elim (middle le) high (cases_lt p 512)) (cases_lt p 256)
      where
        low : p < 256 → IsSome (preset_text p)
        low lt' = some_from (preset_text p) _ (at_low p lt')

        middle : 256 ≤ p → p < 512 → IsSome (preset_text p)
        middle le lt' = some_from (preset_text p) _ (at_middle p le lt')

        high : 512 ≤ p → IsSome (preset_text p)
        high le =
            let index_in : p - 512 < length table = subst (λ n. p - 512 < n) (sym length_of_table) (omega (arith, lt, le)) in
            some_from (preset_text p) _ (at_high p le ∙ slice_get-get_or table (p - 512) (decimal 0) index_in)
