-- What is left of a search along a probe sequence.
use Rattle.std.proofs.Common.{◌≡◌, ◌⊎◌, inl, inr, ℕ, ◌+◌, ◌<◌, ◌≤◌, ◌^◌, Bool, true, false, not, ◌&&◌, ◌||◌, nat_eq, suc, List, ◌∷◌, length, drop, get_or, sym, ap, subst, ◌∙◌, add-one, drop-cons}
use Rattle.std.proofs.lemmas.List.{drop_all}
use Rattle.intern_buckets.specs.Probing.{bucket, is_empty, is_reachable}
use Rattle.intern_buckets.specs.Leading.{leads, probe_sequence}
use Rattle.intern_buckets.specs.declared.buckets.Bucket.{Bucket}
use Rattle.intern_buckets.specs.declared.buckets.Buckets.{Buckets}
use Rattle.intern_buckets.proofs.Probing.{nothing, some_number, met_cases, met_behind}

module _ (passes : ℕ → Bool) (h : ℕ) (t : Buckets) where
  -- each place that the table leads to fails, or is met among these buckets
  abbrev pub IsPassed : List Bucket → Type 0
  IsPassed bs = (p : ℕ) → p + 1 < 2 ^ 48 → leads t h p ≡ true → (passes p ≡ false) ⊎ (is_reachable (bucket h p) bs ≡ true)

  pub passed_all : (bs : List Bucket) → bs ≡ probe_sequence t h → IsPassed bs
  passed_all bs is p small led = inr (ap (is_reachable (bucket h p)) is ∙ led)

  passed_on : (b : Bucket) (bs : List Bucket) → IsPassed (b ∷ bs) → ((p : ℕ) → p + 1 < 2 ^ 48 → b ≡ bucket h p → passes p ≡ false) → IsPassed bs
  passed_on b bs passed other p small led =
      elim (passed p small led) [
        | inl fails ↦ inl fails
        | inr met ↦
            elim (met_cases (bucket h p) b bs met).1 [
              | inl is ↦ inl (other p small (sym is))
              | inr rest ↦ inr rest
            ]
      ]

  pub passed_step : (bs : List Bucket) (i : ℕ) → IsPassed (drop i bs) → i < length bs → ((p : ℕ) → p + 1 < 2 ^ 48 → get_or bs i nothing ≡ bucket h p → passes p ≡ false) → IsPassed (drop (i + 1) bs)
  passed_step bs i passed below other =
      passed_on (get_or bs i nothing) (drop (i + 1) bs)
      (subst IsPassed (drop-cons bs i nothing below ∙ ap (λ n. get_or bs i nothing ∷ drop n bs) (sym (add-one i))) passed) other

  -- where no bucket is met, no place passes
  pub none_left : (bs : List Bucket) → IsPassed bs → ((b : Bucket) → is_reachable b bs ≡ false) → (p : ℕ) → p + 1 < 2 ^ 48 → leads t h p ≡ true → passes p ≡ false
  none_left bs passed none p small led =
      elim (passed p small led) [
        | inl fails ↦ fails
        | inr met ↦ let not = none (bucket h p) in absurd (cc)
      ]

-- nothing is met at an empty bucket, or past the last
pub nothing_met : (bs : List Bucket) (i : ℕ) → i < length bs → is_empty (get_or bs i nothing) ≡ true → (b : Bucket) → is_reachable b (drop i bs) ≡ false
nothing_met bs i below none b =
    ap (is_reachable b) (drop-cons bs i nothing below) ∙ ap (λ t. not t && (nat_eq b.0 (get_or bs i nothing).0 || is_reachable b (drop (suc i) bs))) none

pub nothing_left : (bs : List Bucket) (i : ℕ) → length bs ≤ i → (b : Bucket) → is_reachable b (drop i bs) ≡ false
nothing_left bs i past b = ap (is_reachable b) (drop_all i bs past)

-- no bucket before this one is empty, so what is met from it on is met
abbrev pub IsClear : List Bucket → ℕ → Type 0
IsClear bs i = (b : Bucket) → is_reachable b (drop i bs) ≡ true → is_reachable b bs ≡ true

pub clear_step : (bs : List Bucket) (i : ℕ) → i < length bs → is_empty (get_or bs i nothing) ≡ false → IsClear bs i → IsClear bs (i + 1)
clear_step bs i below full clear = λ b met. clear b
    (ap (is_reachable b) (drop-cons bs i nothing below)
    ∙ met_behind b (get_or bs i nothing) (drop (suc i) bs) (some_number (get_or bs i nothing) full) (ap (λ n. is_reachable b (drop n bs)) (sym (add-one i)) ∙ met))
