-- Two answers to collections of one family, from the same roots.
use Rattle.std.proofs.Common.{◌≡◌, ◌-◌, ◌^◌, min, Bool, true, false, List, [], ◌∷◌, length, refl, sym, ◌∙◌, ap, subst, inl, inr, arith}
use Rattle.std.specs.List.{IsDistinct, AllByRecursion, filter}
use Rattle.std.specs.List.Sorted.{IsPermutation}
use Rattle.std.proofs.lemmas.Bool.{or_cases}
use Rattle.std.proofs.lemmas.List.Sorted.{IsPermutation-refl, IsPermutation-sym, IsPermutation-trans, IsPermutation-cons, IsPermutation-middle, sum_by-IsPermutation, length_permutation, list_any-IsPermutation}
use Rattle.std.proofs.lemmas.Map.Keys.{IsDistinct-head, IsDistinct-tail, IsDistinct-IsPermutation}
use Rattle.intern_store.specs.Named.{same_name}
use Rattle.intern_store.proofs.Named.{names_same}
use Rattle.intern_store.specs.declared.names.Name.{Name}
use Rattle.intern_marks.specs.Names.{has}
use Rattle.intern_marks.specs.Reach.{Entry, children_in, calls_of, kept_entries}
use Rattle.intern_marks.proofs.Names.{same_name_is_equivalence, has_head}
use Rattle.ra_ap_intern.specs.Families.{IsCollection}
use Rattle.ra_ap_intern.specs.declared.gc.Collected.{Collected}
use Rattle.ra_ap_intern.proofs.Collections.{one_set}

-- a list is one of its names, and the others in some order
taken_out : (ys : List Name) (x : Name) → has ys x ≡ true → (zs : List Name) × IsPermutation ys (x ∷ zs)
taken_out [] x there = absurd (cc)
taken_out (y ∷ ys) x there = elim (or_cases (same_name x y) (has ys x) there) [
  | inl same ↦ (ys, subst (λ z. IsPermutation (y ∷ ys) (z ∷ ys)) (sym (names_same x y same)) (IsPermutation-refl (y ∷ ys)))
  | inr later ↦
      let rest = taken_out ys x later in
      (y ∷ rest.0, IsPermutation-trans _ _ _ (IsPermutation-cons y _ _ rest.1) (IsPermutation-middle (y ∷ []) x rest.0))
]

absent : (x : Name) (xs : List Name) → AllByRecursion (λ y. same_name x y ≡ false) xs → has xs x ≡ false
absent x [] all = refl
absent x (y ∷ ys) all = grind (arith, all.0, absent x ys all.1)

-- lists that agree in their first name, which is not behind, agree behind it
alike_behind : (x : Name) (xs zs : List Name) → has xs x ≡ false → has zs x ≡ false
    → ((n : Name) → has (x ∷ xs) n ≡ has (x ∷ zs) n) → (n : Name) → has xs n ≡ has zs n
alike_behind x xs zs one two same n = grind (arith, names_same n x, same n)

-- lists without doubles that have the same names are one in two orders
one_in_two_orders : (xs ys : List Name) → IsDistinct same_name xs → IsDistinct same_name ys
    → ((n : Name) → has xs n ≡ has ys n) → IsPermutation xs ys
one_in_two_orders [] [] one two same = IsPermutation-refl []
one_in_two_orders [] (y ∷ ys) one two same = let head = has_head y ys in let none = same y in absurd (cc)
one_in_two_orders (x ∷ xs) ys one two same =
    let out = taken_out ys x (sym (same x) ∙ has_head x xs) in
    let apart = IsDistinct-IsPermutation same_name same_name_is_equivalence.symm ys (x ∷ out.0) out.1 two in
    let behind = alike_behind x xs out.0
    (absent x xs (IsDistinct-head same_name x xs one))
    (absent x out.0 (IsDistinct-head same_name x out.0 apart))
    (λ n. same n ∙ list_any-IsPermutation (same_name n) ys (x ∷ out.0) out.1) in
    let rest = one_in_two_orders xs out.0 (IsDistinct-tail same_name x xs one) (IsDistinct-tail same_name x out.0 apart) behind in
    IsPermutation-trans _ _ _ (IsPermutation-cons x _ _ rest) (IsPermutation-sym _ _ out.1)

module _ {begins : Name → Bool} {family : List Entry} {names others : List Name} {told again : Collected}
    (first : IsCollection begins family names told) (second : IsCollection begins family others again) where
  pub same_names_left : has names ≡ has others
  same_names_left = one_set begins family names others first.reached second.reached

  in_two_orders : IsPermutation names others
  in_two_orders = one_in_two_orders names others first.reached.once second.reached.once (λ n i. same_names_left i n)

  same_calls : calls_of family names ≡ calls_of family others
  same_calls = ap (λ n. min n (2 ^ 64 - 1)) (sym (sum_by-IsPermutation (λ name. length (children_in family name)) names others in_two_orders))

  same_removed : told.removed ≡ again.removed
  same_removed =
      let one = first.removed in
      let two = second.removed in
      let left : length (kept_entries family names) ≡ length (kept_entries family others) =
      ap (λ set. length (filter (λ e. set e.name) family)) same_names_left in
      omega arith

  -- they tell the same
  pub same_told : told ≡ again
  same_told = λ i. record {
    visits = (first.visits ∙ sym (length_permutation names others in_two_orders) ∙ sym second.visits) i;
    mark_calls = (first.mark_calls ∙ same_calls ∙ sym second.mark_calls) i;
    removed = same_removed i;
  }
