-- Lists and sets that take one element more.
use Rattle.std.proofs.Common.{◌≡◌, ◌⊎◌, inl, inr, Bool, true, false, not, List, [], ◌∷◌, ◌++◌, Contains, refl, subst, arith}
use Rattle.std.specs.Bool.{MatchBool}
use Rattle.std.specs.List.Sorted.{IsPermutation}
use Rattle.std.proofs.lemmas.List.Elements.{Contains-append_cases, Contains-append_left, Contains-append_right, Contains-push, Contains-push_cases}
use Rattle.std.proofs.lemmas.List.Sorted.{Contains-permutation, IsPermutation-sym}

-- a set, and one element more
pub record Inserted {A : Type 0} (old new : List A) (p : A) : Type 0 where
  pub keeps : (q : A) → Contains old q → Contains new q
  pub here : Contains new p
  pub cases : (q : A) → Contains new q → Contains old q ⊎ (p ≡ q)

pub inserted : {A : Type 0} (old new : List A) (p : A) (added : Bool) → added ≡ true
    → MatchBool added (IsPermutation (p ∷ old) new) (new ≡ old) → Inserted old new p
inserted old new p added is puts =
    let moved = subst (λ t. MatchBool t (IsPermutation (p ∷ old) new) (new ≡ old)) is puts in
    record {
      keeps = λ q in'. Contains-permutation (p ∷ old) new q moved (Contains-append_right (p ∷ []) old q in');
      here = Contains-permutation (p ∷ old) new p moved (Contains-append_left (p ∷ []) old p (Contains-push [] p));
      cases = λ q in'. elim (Contains-append_cases (p ∷ []) old q
          (Contains-permutation new (p ∷ old) q (IsPermutation-sym (p ∷ old) new moved) in')) [
            | inl one ↦ elim (Contains-push_cases [] p q one) [
              | inl none ↦ absurd (omega (arith, none.1))
              | inr same ↦ inr same
            ]
            | inr earlier ↦ inl earlier
          ];
    }

-- what is added isn't found
pub absent_if : (added found : Bool) → added ≡ true → added ≡ not found → found ≡ false
absent_if added true one is = absurd (cc)
absent_if added false one is = refl

-- what isn't added is found
pub found_if : (added found : Bool) → added ≡ false → added ≡ not found → found ≡ true
found_if added true none is = refl
found_if added false none is = absurd (cc)

-- each element is so
abbrev pub Each : {A : Type 0} → (A → Type 0) → List A → Type 0
Each {A} P xs = (p : A) → Contains xs p → P p

-- without the last, and that
pub each_popped : {A : Type 0} (P : A → Type 0) (all rest : List A) (p : A) → all ≡ rest ++ p ∷ []
    → Each P all → Each P rest × P p
each_popped P all rest p last each =
    let here = subst (Each P) last each in
    (λ q in'. here q (Contains-append_left rest (p ∷ []) q in'), here p (Contains-push rest p))

pub each_push : {A : Type 0} (P : A → Type 0) (xs : List A) (p : A) → Each P xs → P p → Each P (xs ++ p ∷ [])
each_push P xs p each is q in' = elim (Contains-push_cases xs p q in') [
  | inl earlier ↦ each q earlier
  | inr same ↦ subst P same is
]

pub each_one : {A : Type 0} (P : A → Type 0) (p : A) → P p → Each P (p ∷ [])
each_one P p is = each_push P [] p (λ q in'. absurd (omega (arith, in'.1))) is
