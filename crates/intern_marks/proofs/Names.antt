-- Equality of names, their order, and what is in a list of names.
use Rattle.std.proofs.Common.{◌≡◌, true, cond, ◌&&◌, ◌||◌, List, [], ◌∷◌, ◌++◌, Some, refl, sym, ◌∙◌, ap, ◌⊎◌, arith}
use Rattle.std.specs.Cmp.{IsEquivalence, IsTotalOrder, nat_cmp_total, then_total, on_total, tied_then}
use Rattle.std.specs.Ordering.{nat_cmp, eq_by_cmp, is_eq}
use Rattle.std.specs.FinMap.{FinMap, IsAntisymmetric, get, insert, get-insert}
use Rattle.std.proofs.lemmas.Cmp.{nat_eq_equiv}
use Rattle.std.proofs.lemmas.Bool.{or_left}
use Rattle.std.proofs.lemmas.List.Folds.{list_any-append}
use Rattle.intern_store.specs.declared.names.Name.{Name}
use Rattle.intern_store.proofs.Compared.{tied}
use Rattle.intern_store.proofs.Named.{names_same, same_names}
use Rattle.intern_store.specs.Named.{same_name}
use Rattle.intern_marks.specs.Names.{has, name_cmp}

pub same_as_itself : (a : Name) → same_name a a ≡ true
same_as_itself a = same_names a a refl

pub same_name_is_equivalence : IsEquivalence same_name
same_name_is_equivalence = record {
  refl = same_as_itself;
  symm = λ x y i. (nat_eq_equiv.symm x.storage y.storage i) && (nat_eq_equiv.symm x.birth y.birth i);
  congr = λ x y z p. ap (λ m. same_name m z) (names_same x y p);
}

pub has_append : (xs ys : List Name) (n : Name) → has (xs ++ ys) n ≡ (has xs n || has ys n)
has_append xs ys n = list_any-append _ xs ys

pub has_cases : (xs : List Name) (m n : Name) → has (xs ++ m ∷ []) n ≡ true → (has xs n ≡ true) ⊎ (n ≡ m)
has_cases xs m n h = grind (arith, has_append, names_same)

pub name_cmp_total : IsTotalOrder name_cmp
name_cmp_total = then_total (on_total (λ (n : Name). n.storage) nat_cmp_total) (on_total (λ (n : Name). n.birth) nat_cmp_total)

pub told : (x y : Name) → eq_by_cmp name_cmp x y ≡ same_name x y
told x y = sym (tied_then (nat_cmp x.storage y.storage) (nat_cmp x.birth y.birth)) ∙ (λ i. tied x.storage y.storage i && tied x.birth y.birth i)

pub name_cmp-IsAntisymmetric : IsAntisymmetric name_cmp
name_cmp-IsAntisymmetric x y e = names_same x y (sym (told x y) ∙ ap is_eq e)

pub get-inserted : {X : Type 0} (m : FinMap name_cmp X) (n : Name) (v : X) (x : Name) → get (insert m n v) x ≡ cond (same_name x n) (Some v) (get m x)
get-inserted m n v x = get-insert name_cmp_total m n v x ∙ ap (λ t. cond t (Some v) (get m x)) (told x n)

pub has_head : (x : Name) (xs : List Name) → has (x ∷ xs) x ≡ true
has_head x xs = or_left _ _ (same_as_itself x)
