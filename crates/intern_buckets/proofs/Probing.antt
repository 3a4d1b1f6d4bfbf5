-- What a probe sequence leads to, once a bucket is filled.
use Rattle.std.proofs.Common.{◌≡◌, ◌≢◌, ◌⊎◌, inl, inr, ℕ, zero, suc, ◌+◌, ◌<◌, ◌≤◌, true, false, not, ◌||◌, List, [], ◌∷◌, ◌++◌, length, get_or, drop, nat_eq, refl, sym, ap, ◌∙◌, arith}
use Rattle.std.proofs.Math.ListN.{set}
use Rattle.std.proofs.lemmas.Bool.{cases_lt, eqb-true, eq-eqb, ne_eqb, and_parts, and_from, or_cases, or_left, or_right}
use Rattle.intern_buckets.specs.Probing.{no_entry, is_empty, is_reachable}
use Rattle.intern_buckets.specs.declared.buckets.Bucket.{Bucket}

-- what is read past the last bucket
abbrev pub nothing : Bucket
nothing = record { 0 = 0 }

is_it : (v w : Bucket) → nat_eq v.0 w.0 ≡ true → v ≡ w
is_it v w same = ap (λ n. record { 0 = n }) (eqb-true v.0 w.0 same)

same_if : (v w : Bucket) → v ≡ w → nat_eq v.0 w.0 ≡ true
same_if v w is = eq-eqb v.0 w.0 (ap (λ x. x.0) is)

pub some_number : (w : Bucket) → is_empty w ≡ false → w.0 ≢ no_entry
some_number w full none = let yes = eq-eqb w.0 no_entry none in absurd (cc)

pub no_number : (w : Bucket) → is_empty w ≡ true → w.0 ≡ no_entry
no_number w empty = eqb-true w.0 no_entry empty

-- a bucket that is met is at the head, which is not empty, or behind it
pub met_cases : (x w : Bucket) (ws : List Bucket) → is_reachable x (w ∷ ws) ≡ true → (w.0 ≢ no_entry) × ((x ≡ w) ⊎ (is_reachable x ws ≡ true))
met_cases x w ws met =
    let parts = and_parts (not (is_empty w)) (nat_eq x.0 w.0 || is_reachable x ws) met in (
      λ empty. let no = sym parts.0 ∙ ap not (eq-eqb w.0 no_entry empty) in absurd (cc),
      elim (or_cases (nat_eq x.0 w.0) (is_reachable x ws) parts.1) [ inl here ↦ inl (is_it x w here) | inr behind ↦ inr behind ],
    )

-- a bucket at the head is met
pub met_here : (x w : Bucket) (ws : List Bucket) → w.0 ≢ no_entry → x ≡ w → is_reachable x (w ∷ ws) ≡ true
met_here x w ws full here = and_from _ _ (ap not (ne_eqb w.0 no_entry full)) (or_left _ _ (same_if x w here))

-- a bucket behind a head that is not empty is met
pub met_behind : (x w : Bucket) (ws : List Bucket) → w.0 ≢ no_entry → is_reachable x ws ≡ true → is_reachable x (w ∷ ws) ≡ true
met_behind x w ws full met = and_from _ _ (ap not (ne_eqb w.0 no_entry full)) (or_right (nat_eq x.0 w.0) _ met)

-- a head stays as it is, and what is met behind it still is
met_beside : (x w : Bucket) (ws more : List Bucket) → (is_reachable x ws ≡ true → is_reachable x more ≡ true) → is_reachable x (w ∷ ws) ≡ true → is_reachable x (w ∷ more) ≡ true
met_beside x w ws more still met =
    let cases = met_cases x w ws met in
    elim cases.1 [
      | inl here ↦ met_here x w more cases.0 here
      | inr behind ↦ met_behind x w more cases.0 (still behind)
    ]

-- an empty bucket is filled, and each bucket that was met still is
filled_still_met : (x w : Bucket) (at : ℕ) (ws : List Bucket) → (get_or ws at nothing).0 ≡ no_entry → is_reachable x ws ≡ true → is_reachable x (set ws at w) ≡ true
filled_still_met x w at [] empty met = met
filled_still_met x w zero (v ∷ ws) empty met = absurd ((met_cases x v ws met).0 empty)
filled_still_met x w (suc at) (v ∷ ws) empty met = met_beside x v ws (set ws at w) (filled_still_met x w at ws empty) met

-- the same of a search that begins at any place
pub filled_still : (x w : Bucket) (n at : ℕ) (ws : List Bucket) → (get_or ws at nothing).0 ≡ no_entry → is_reachable x (drop n ws) ≡ true → is_reachable x (drop n (set ws at w)) ≡ true
filled_still x w zero at ws empty met = filled_still_met x w at ws empty met
filled_still x w (suc n) at [] empty met = met
filled_still x w (suc n) zero (v ∷ ws) empty met = met
filled_still x w (suc n) (suc at) (v ∷ ws) empty met = filled_still x w n at ws empty met

-- one more bucket stands at the end, and each bucket that was met still is
more_still_met : (x w : Bucket) (ws : List Bucket) → is_reachable x ws ≡ true → is_reachable x (ws ++ w ∷ []) ≡ true
more_still_met x w [] met = absurd (cc)
more_still_met x w (v ∷ ws) met = met_beside x v ws (ws ++ w ∷ []) (more_still_met x w ws) met

-- the same of a search that begins at any place
pub more_still : (x w : Bucket) (n : ℕ) (ws : List Bucket) → is_reachable x (drop n ws) ≡ true → is_reachable x (drop n (ws ++ w ∷ [])) ≡ true
more_still x w zero ws met = more_still_met x w ws met
more_still x w (suc n) [] met = absurd (cc)
more_still x w (suc n) (v ∷ ws) met = more_still x w n ws met

-- no bucket is empty from one place up to another
abbrev pub IsFull : List Bucket → ℕ → ℕ → Type 0
IsFull ws n at = (k : ℕ) → n ≤ k → k < at → (get_or ws k nothing).0 ≢ no_entry

-- the same of the buckets behind a head
full_behind : (v : Bucket) (ws : List Bucket) (n m at : ℕ) → n ≤ suc m → IsFull (v ∷ ws) n (suc at) → IsFull ws m at
full_behind v ws n m at far full = λ k low high. full (suc k) (omega arith) (omega arith)

-- a bucket at a place is met, where no bucket before it is empty
pub filled_met : (w : Bucket) (n at : ℕ) (ws : List Bucket) → w.0 ≢ no_entry → n ≤ at → at < length ws → IsFull ws n at → is_reachable w (drop n (set ws at w)) ≡ true
filled_met w n at [] some low high full = absurd (omega arith)
filled_met w zero zero (v ∷ ws) some low high full = met_here w w ws some refl
filled_met w zero (suc at) (v ∷ ws) some low high full =
    met_behind w v (set ws at w) (full 0 (omega arith) (omega arith))
    (filled_met w zero at ws some (omega arith) (omega arith) (full_behind v ws 0 0 at (omega arith) full))
filled_met w (suc n) zero (v ∷ ws) some low high full = absurd (omega arith)
filled_met w (suc n) (suc at) (v ∷ ws) some low high full =
    filled_met w n at ws some (omega arith) (omega arith) (full_behind v ws (suc n) n at (omega arith) full)

-- a bucket at the end is met, where no bucket before it is empty
pub more_met : (w : Bucket) (n : ℕ) (ws : List Bucket) → w.0 ≢ no_entry → n ≤ length ws → IsFull ws n (length ws) → is_reachable w (drop n (ws ++ w ∷ [])) ≡ true
more_met w zero [] some low full = met_here w w [] some refl
more_met w (suc n) [] some low full = absurd (omega arith)
more_met w zero (v ∷ ws) some low full =
    met_behind w v (ws ++ w ∷ []) (full 0 (omega arith) (omega arith))
    (more_met w zero ws some (omega arith) (full_behind v ws 0 0 (length ws) (omega arith) full))
more_met w (suc n) (v ∷ ws) some low full =
    more_met w n ws some (omega arith) (full_behind v ws (suc n) n (length ws) (omega arith) full)

-- no bucket is empty up to the next place, where the one more is not
pub full_more : (n at : ℕ) (ws : List Bucket) → IsFull ws n at → (get_or ws at nothing).0 ≢ no_entry → IsFull ws n (at + 1)
full_more n at ws full here = λ k low high. go k low (cases_lt k at) high
  where
    go : (k : ℕ) → n ≤ k → (k < at) ⊎ (at ≤ k) → k < at + 1 → (get_or ws k nothing).0 ≢ no_entry
    go k low (inl below) high = full k low below
    go k low (inr above) high = let is : k ≡ at = omega arith in rw is here
