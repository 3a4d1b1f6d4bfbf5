-- The birth of a value, as the map's entries give it and as look-ups do.
use Rattle.std.proofs.Common.{◌≡◌, ℕ, Bool, true, false, List, [], ◌∷◌, Option, Some, None, IfSome, IfNone, Result, Ok, Err, IfOk, OnErr, refl, sym, ap, ◌∙◌, arith}
use Rattle.std.specs.Prelude.{T}
use Rattle.std.specs.Option.{option_map}
use Rattle.std.specs.Result.{result_ok}
use Rattle.std.specs.List.{find}
use Rattle.std.specs.Ordering.{nat_cmp}
use Rattle.std.specs.Cmp.{IsEquivalence}
use Rattle.std.specs.FinMap.{get, entries, get-entries, entries_sorted, is_sorted}
use Rattle.std.specs.FinMap.Entries as entry
use Rattle.std.proofs.lemmas.Bool.Decides.{nat_tests}
use Rattle.intern_store.specs.Kept.{Kept, is_at, is_where}
use Rattle.intern_store.specs.State.{State, IsState, birth_of, birth_where}
use Rattle.intern_store.proofs.Compared.{tied}
use Rattle.intern_store.proofs.Sorted.{parts, above_all}

module _ {X : Type 0} where
  -- the first entry that passes a test is the entry of its key
  first_found : (p : ℕ × X → Bool) (es : List (ℕ × X)) (e : ℕ × X) → T (is_sorted nat_cmp es) → find p es ≡ Some e → (entry.find nat_cmp e.0 es ≡ Some e.1) × (p e ≡ true)
  first_found p [] e sorted is = absurd (cc)
  first_found p (x ∷ xs) e sorted is =
      let sides = parts _ _ sorted in
      let rest = first_found p xs e sides.1 in
      let higher = above_all x.0 e.0 e.1 xs sides.0 in
      (grind (arith, nat_tests, rest, higher, tied), grind (arith, rest))

  -- where no entry passes, none that a key finds does
  none_found : (p : ℕ × X → Bool) (f : X → Bool) → ((e : ℕ × X) → p e ≡ f e.1) → (es : List (ℕ × X)) (q : ℕ) (v : X) → find p es ≡ None → entry.find nat_cmp q es ≡ Some v → f v ≡ false
  none_found p f by [] q v none is = absurd (cc)
  none_found p f by (x ∷ xs) q v none is = let rest = none_found p f by xs q v in grind (arith, rest, by x)

module _ {V : Type 0} (test : V → Bool) where
  -- what passes is kept
  pub passing : (o : Option (Kept V)) → is_where test o ≡ true → (k : Kept V) × (o ≡ Some k) × (test k.value ≡ true)
  passing (Some k) is = (k, refl, is)
  passing None is = absurd (cc)

  -- an entry that is told by a test of its value is there
  pub is_there : (s : State V) (b : ℕ) → birth_where test s ≡ Some b → is_where test (get s.map b) ≡ true
  is_there s b is =
      let first = λ (e : ℕ × Kept V). first_found (λ e. test e.1.value) (entries s.map) e (entries_sorted s.map) in
      grind (arith, first, get-entries s.map b)

  -- where no birth is told, no entry's value passes
  pub not_there : (s : State V) → birth_where test s ≡ None → (b : ℕ) → is_where test (get s.map b) ≡ false
  not_there s is b =
      let none = none_found (λ e. test e.1.value) (λ k. test k.value) (λ e. refl) (entries s.map) b in
      grind (arith, none, get-entries s.map b)

  -- no birth is told where no entry's value passes
  pub none_where : (s t : State V) → s ≡ t → ((b : ℕ) → is_where test (get s.map b) ≡ false) → birth_where test t ≡ None
  none_where s t view none = ap (birth_where test) (sym view) ∙ go (birth_where test s) refl
    where
      go : (o : Option ℕ) → birth_where test s ≡ o → o ≡ None
      go None is = refl
      go (Some c) is = let yes = is_there s c is in let no = none c in absurd (cc)

  -- values that pass are equal
  module _ (eq : V → V → Bool) (alike : (v w : V) → test v ≡ true → test w ≡ true → eq v w ≡ true) (s t : State V) (view : s ≡ t) (ok : IsState eq s) where
    -- two entries whose values pass are one
    one : (b c : ℕ) → is_where test (get s.map b) ≡ true → is_where test (get s.map c) ≡ true → b ≡ c
    one b c first second =
        let k = passing (get s.map b) first in
        let l = passing (get s.map c) second in
        ok.apart b c k.0 l.0 k.1 l.1 (alike k.0.value l.0.value k.2 l.2)

    -- the birth of an entry whose value passes
    pub found_where : (b : ℕ) → is_where test (get s.map b) ≡ true → birth_where test t ≡ Some b
    found_where b found = ap (birth_where test) (sym view) ∙ go (birth_where test s) refl
      where
        go : (o : Option ℕ) → birth_where test s ≡ o → o ≡ Some b
        go None is = let no = not_there s is b in absurd (cc)
        go (Some c) is = ap Some (one c b (is_there s c is) found)

    -- what a search finds is that birth
    pub searched : {X : Type 0} (birth : X → ℕ) (o : Option X)
        → IfSome o (λ x. is_where test (get s.map (birth x)) ≡ true) → IfNone o ((b : ℕ) → is_where test (get s.map b) ≡ false) → option_map birth o ≡ birth_where test t
    searched birth (Some x) found none = sym (found_where (birth x) found)
    searched birth None found none = sym (none_where s t view none)

module _ {V : Type 0} (eq : V → V → Bool) where
  -- an entry that is told by its value is there
  pub is_stored : (s : State V) (v : V) (b : ℕ) → birth_of eq s v ≡ Some b → is_at eq v (get s.map b) ≡ true
  is_stored s v b is = is_there (eq v) s b is

  -- where no birth is told, no entry has an equal value
  pub not_stored : (s : State V) (v : V) → birth_of eq s v ≡ None → (b : ℕ) → is_at eq v (get s.map b) ≡ false
  not_stored s v is b = not_there (eq v) s is b

  -- the same of a state that is seen as another
  pub not_stored_in : (s t : State V) → s ≡ t → (v : V) → birth_of eq t v ≡ None → (b : ℕ) → is_at eq v (get s.map b) ≡ false
  not_stored_in s t view v is = not_stored s v (ap (λ x. birth_of eq x v) view ∙ is)

  -- values that equal one value are equal
  pub both_equal : IsEquivalence eq → (v x y : V) → eq v x ≡ true → eq v y ≡ true → eq x y ≡ true
  both_equal laws v x y first second = sym (laws.congr v x y first) ∙ second

  -- the birth of a value that an entry has
  pub birth_found : IsEquivalence eq → (s t : State V) → s ≡ t → IsState eq s → (v : V) (b : ℕ) → is_at eq v (get s.map b) ≡ true → birth_of eq t v ≡ Some b
  birth_found laws s t view ok v b found = found_where (eq v) eq (both_equal laws v) s t view ok b found

  -- and of one that none has
  pub birth_unfound : (s t : State V) → s ≡ t → (v : V) → ((b : ℕ) → is_at eq v (get s.map b) ≡ false) → birth_of eq t v ≡ None
  birth_unfound s t view v none = none_where (eq v) s t view none

  -- what a search finds is the birth of the value
  pub birth_is : {X E : Type 0} (birth : X → ℕ) → IsEquivalence eq → (s t : State V) → s ≡ t → IsState eq s → (v : V) (r : Result X E)
      → IfOk r (λ x. is_at eq v (get s.map (birth x)) ≡ true) → OnErr r ((b : ℕ) → is_at eq v (get s.map b) ≡ false) → option_map birth (result_ok r) ≡ birth_of eq t v
  birth_is birth laws s t view ok v (Ok x) found none = sym (birth_found laws s t view ok v (birth x) found)
  birth_is birth laws s t view ok v (Err e) found none = sym (birth_unfound s t view v none)
