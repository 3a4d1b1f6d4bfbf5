-- How much isn't met yet: a search that meets something new each time ends.
use Rattle.std.proofs.Common.{◌≡◌, ◌↔◌, ◌⊎◌, inl, inr, ℕ, ◌+◌, ◌≤◌, Bool, true, false, cond, ◌&&◌, List, [], ◌∷◌, ◌++◌, map, Contains, Some, is_some, refl, sym, ap, subst, ◌∙◌, arith}
use Rattle.std.specs.List.{find, list_any}
use Rattle.std.proofs.lemmas.Bool.{and_from}
use Rattle.std.proofs.lemmas.List.Folds.{Any-from_list_any, list_any-from_Any}
use Rattle.ra_ap_intern.specs.Handle.{ref_name}
use Rattle.ra_ap_intern.specs.Name.{Name}
use Rattle.ra_ap_intern.specs.Named.{same_name}
use Rattle.ra_ap_intern.specs.Reach.{Entry, is_entry}
use Rattle.ra_ap_intern.specs.State.{State, reads}
use Rattle.ra_ap_intern.proofs.CallerLemmas.{entry_read, handles_tested, names_same, same_names, seen_read, some_read}
use Rattle.types.specs.Types.{Shape, declared_by, shape, shape_at, types_of}
use Rattle.types.specs.declared.value.TypeNode.{TypeNode}
use Rattle.types.proofs.Pairs.{Handle, Both}
use Rattle.types.proofs.Sets.{Inserted}

abbrev In : {X : Type 0} → List X → X → Type 0
In [] x = ⊥
In (y ∷ ys) x = (y ≡ x) ⊎ In ys x

in_left : {X : Type 0} (xs ys : List X) (x : X) → In xs x → In (xs ++ ys) x
in_left [] ys x is = absurd is
in_left (z ∷ zs) ys x (inl is) = inl is
in_left (z ∷ zs) ys x (inr is) = inr (in_left zs ys x is)

in_right : {X : Type 0} (xs ys : List X) (x : X) → In ys x → In (xs ++ ys) x
in_right [] ys x is = is
in_right (z ∷ zs) ys x is = inr (in_right zs ys x is)

in_map : {X Y : Type 0} (f : X → Y) (xs : List X) (x : X) → In xs x → In (map f xs) (f x)
in_map f [] x is = absurd is
in_map f (z ∷ zs) x (inl is) = inl (ap f is)
in_map f (z ∷ zs) x (inr is) = inr (in_map f zs x is)

-- ---- how many fail a test, and a later one that all pass that passed the earlier

abbrev fail : Bool → ℕ
fail passed = cond passed 0 1

abbrev fails : {X : Type 0} → (X → Bool) → List X → ℕ
fails p [] = 0
fails p (x ∷ xs) = fail (p x) + fails p xs

less_one : (t u : Bool) → (t ≡ true → u ≡ true) → fail u ≤ fail t
less_one true true on = omega arith
less_one true false on = let no = on refl in absurd (cc)
less_one false true on = omega arith
less_one false false on = omega arith

module _ {X : Type 0} (p q : X → Bool) (on : (x : X) → p x ≡ true → q x ≡ true) where
  fail_less : (xs : List X) → fails q xs ≤ fails p xs
  fail_less [] = omega arith
  fail_less (x ∷ xs) =
      let rest = fail_less xs in
      let one = less_one (p x) (q x) (on x) in
      omega arith

  fail_fewer : (x : X) → p x ≡ false → q x ≡ true → (xs : List X) → In xs x → fails q xs + 1 ≤ fails p xs
  fail_fewer x before after [] is = absurd is
  fail_fewer x before after (y ∷ ys) (inl is) =
      let rest = fail_less ys in
      let old : fail (p y) ≡ 1 = (λ i. fail (p (is i))) ∙ ap fail before in
      let new : fail (q y) ≡ 0 = (λ i. fail (q (is i))) ∙ ap fail after in
      omega arith
  fail_fewer x before after (y ∷ ys) (inr is) =
      let rest = fail_fewer x before after ys is in
      let one = less_one (p y) (q y) (on y) in
      omega arith

-- ---- names of keys

module _ {K X : Type 0} (name : K → X) (same : X → X → Bool) where
  -- whether a set has a key of this name
  abbrev pub is_met : List K → X → Bool
  is_met met x = list_any (λ k. same x (name k)) met

  -- of how many names a set has no key
  abbrev pub unmet : List X → List K → ℕ
  unmet names met = fails (is_met met) names

  met_on : (old new : List K) → ((k : K) → Contains old k → Contains new k) → (x : X)
      → is_met old x ≡ true → is_met new x ≡ true
  met_on old new keeps x is =
      let any = Any-from_list_any (λ k. same x (name k)) old is in
      let there = keeps any.1 (any.0, any.2, any.3) in
      list_any-from_Any (λ k. same x (name k)) new (there.0, any.1, there.1, there.2, any.4)

  module _ (itself : (x : X) → same x x ≡ true) (names : List X) (old new : List K) (k : K)
      (also : Inserted old new k) where
    unmet_less : unmet names new ≤ unmet names old
    unmet_less = fail_less (is_met old) (is_met new) (met_on old new also.keeps) names

    unmet_fewer : is_met old (name k) ≡ false → In names (name k) → unmet names new + 1 ≤ unmet names old
    unmet_fewer none among =
        fail_fewer (is_met old) (is_met new) (met_on old new also.keeps) (name k) none
        (list_any-from_Any (λ j. same (name k) (name j)) new
        (also.here.0, k, also.here.1, also.here.2, itself (name k))) names among

-- ---- the names of a store

abbrev pub names_of : State TypeNode → List Name
names_of s = map (λ (e : Entry). e.name) (types_of s)

named : (family : List Entry) (n : Name) → is_entry family n ≡ true → In (map (λ (e : Entry). e.name) family) n
named [] n is = absurd (cc)
named (e ∷ es) n is = go (same_name n e.name) refl is (named es n)
  where
    go : (t : Bool) → same_name n e.name ≡ t
        → is_some (cond t (Some e) (find (λ f. same_name n f.name) es)) ≡ true
        → (is_entry es n ≡ true → In (map (λ (f : Entry). f.name) es) n)
        → In (map (λ (f : Entry). f.name) (e ∷ es)) n
    go true same found rest = inl (sym (names_same _ _ same))
    go false same found rest = inr (rest found)

-- what reads a type is one of them
stored : (s : State TypeNode) (n : Name) (x : Shape) → shape_at s n ≡ Some x → In (names_of s) n
stored s n x at =
    let v = some_read (reads s n) (seen_read shape _ _ at) in
    named (types_of s) n (entry_read declared_by s n ∙ ap is_some v.1)

-- of how many of a store's types a set has no handle
abbrev pub unmet_types : State TypeNode → List Handle → ℕ
unmet_types s met = unmet ref_name same_name (names_of s) met

-- ---- and of how many pairs of them

abbrev both_names : Both → Name × Name
both_names p = (ref_name p.0, ref_name p.1)

abbrev same_both : Name × Name → Name × Name → Bool
same_both x y = same_name x.0 y.0 && same_name x.1 y.1

abbrev pairs_of : List Name → List Name → List (Name × Name)
pairs_of [] ms = []
pairs_of (n ∷ ns) ms = map (λ m. (n, m)) ms ++ pairs_of ns ms

in_pairs : (ns ms : List Name) (n m : Name) → In ns n → In ms m → In (pairs_of ns ms) (n, m)
in_pairs [] ms n m first second = absurd first
in_pairs (k ∷ ks) ms n m (inl is) second =
    in_left (map (λ x. (k, x)) ms) (pairs_of ks ms) (n, m)
    (subst (λ x. In {X = Name × Name} (map (λ y. (k, y)) ms) (x, m)) is (in_map (λ x. (k, x)) ms m second))
in_pairs (k ∷ ks) ms n m (inr is) second =
    in_right (map (λ x. (k, x)) ms) (pairs_of ks ms) (n, m) (in_pairs ks ms n m is second)

abbrev pub unmet_pairs : State TypeNode → List Both → ℕ
unmet_pairs s met = unmet both_names same_both (pairs_of (names_of s) (names_of s)) met

same_itself : (x : Name × Name) → same_both x x ≡ true
same_itself x = and_from _ _ (same_names x.0 x.0 refl) (same_names x.1 x.1 refl)

pub less_pairs : (s : State TypeNode) (old new : List Both) (p : Both) → Inserted old new p
    → unmet_pairs s new ≤ unmet_pairs s old
less_pairs s old new p also =
    unmet_less both_names same_both same_itself (pairs_of (names_of s) (names_of s)) old new p also

-- what is put into a set that hasn't it is met from then on
module _ (s : State TypeNode) (eq : Handle → Handle → Bool)
    (equal : (a b : Handle) → (eq a b ≡ true) ↔ (ref_name a ≡ ref_name b)) where
  tested : (a b : Handle) → eq a b ≡ same_name (ref_name a) (ref_name b)
  tested = handles_tested eq ref_name equal

  pub fewer_types : (old new : List Handle) (p : Handle) (x : Shape) → Inserted old new p
      → list_any (eq p) old ≡ false → shape_at s (ref_name p) ≡ Some x
      → unmet_types s new + 1 ≤ unmet_types s old
  fewer_types old new p x also none at =
      unmet_fewer ref_name same_name (λ n. same_names n n refl) (names_of s) old new p also
      (sym (λ i. list_any (λ q. tested p q i) old) ∙ none) (stored s (ref_name p) x at)

  pub fewer_pairs : (old new : List Both) (p : Both) (x y : Shape) → Inserted old new p
      → list_any (λ q. eq p.0 q.0 && eq p.1 q.1) old ≡ false
      → shape_at s (ref_name p.0) ≡ Some x → shape_at s (ref_name p.1) ≡ Some y
      → unmet_pairs s new + 1 ≤ unmet_pairs s old
  fewer_pairs old new p x y also none first second =
      unmet_fewer both_names same_both same_itself (pairs_of (names_of s) (names_of s)) old new p also
      (sym (λ i. list_any (λ q. tested p.0 q.0 i && tested p.1 q.1 i) old) ∙ none)
      (in_pairs (names_of s) (names_of s) (ref_name p.0) (ref_name p.1)
      (stored s (ref_name p.0) x first) (stored s (ref_name p.1) y second))
