-- What is learnt of the entries of a storage, whose counts come in some order.
use Rattle.std.proofs.Common.{◌≡◌, ℕ, Bool, false, nat_eq, length, List, [], ◌∷◌, Some, refl, sym, ap, ◌∙◌, subst, arith}
use Rattle.std.specs.Prelude.{T, IsPermutation, map as list_map}
use Rattle.std.specs.List.{IsDistinct, AllByRecursion}
use Rattle.std.specs.Map.{keys_of, lookup}
use Rattle.std.specs.Option.{option_map}
use Rattle.std.specs.Ordering.{nat_cmp}
use Rattle.std.specs.FinMap.{FinMap, find, entries, entries_sorted, get-entries, is_sorted}
use Rattle.std.specs.FinMap.Entries.{below_all}
use Rattle.std.proofs.lemmas.Bool.{eqb-true, ne_eqb}
use Rattle.std.proofs.lemmas.Cmp.{nat_eq_equiv}
use Rattle.std.proofs.lemmas.List.{length-map}
use Rattle.std.proofs.lemmas.List.Sorted.{IsPermutation-sym, IsPermutation-map, length_permutation, Contains-permutation}
use Rattle.std.proofs.lemmas.Map.Keys.{IsDistinct-IsPermutation}
use Rattle.std.proofs.lemmas.Map.Views.{Contains-from_lookup, lookup-from_Contains}
use Rattle.intern_marks.specs.Learning.{Learns}
use Rattle.intern_marks.specs.Marks.{Marks}
use Rattle.intern_marks.specs.Trace.{counted_in}
use Rattle.intern_store.specs.Kept.{Kept}
use Rattle.intern_store.specs.State.{State, entry_at}
use Rattle.intern_store.specs.declared.names.Name.{Name}
use Rattle.intern_store.proofs.Compared.{tied}
use Rattle.intern_store.proofs.Sorted.{parts, less}
use Rattle.intern_table.specs.Listed.{listed_counts}
use Rattle.ra_ap_intern.specs.Families.{entries_of, counted_entries}
use Rattle.ra_ap_intern.specs.StorageLaws.{entry_named}
use Rattle.ra_ap_intern.proofs.Registering.{counts_told, learns_same}

-- a look-up finds the same in lists that have the same entries, where keys differ
lookup_permutation : {X : Type 0} (q : ℕ) (xs ys : List (ℕ × X)) → IsPermutation xs ys → IsDistinct nat_eq (keys_of xs) → IsDistinct nat_eq (keys_of ys) → lookup (nat_eq q) xs ≡ lookup (nat_eq q) ys
lookup_permutation {X} q xs ys same first second = grind (arith, found xs ys same second, found ys xs (IsPermutation-sym xs ys same) first)
  where
    found : (us vs : List (ℕ × X)) → IsPermutation us vs → IsDistinct nat_eq (keys_of vs) → (v : X) → lookup (nat_eq q) us ≡ Some v → lookup (nat_eq q) vs ≡ Some v
    found us vs same distinct v is = lookup-from_Contains nat_eq_equiv q v vs distinct (Contains-permutation us vs (q, v) same (Contains-from_lookup eqb-true q v us is))

module _ {V : Type 0} where
  above : (b : ℕ) (es : List (ℕ × Kept V)) → T (below_all nat_cmp b es) → AllByRecursion (λ k. nat_eq b k ≡ false) (keys_of (list_map (λ e. (e.0, e.1.count)) es))
  above b [] below = tt
  above b (e ∷ es) below =
      let both = parts _ _ below in
      let under = less b e.0 both.0 in
      (ne_eqb b e.0 (λ same. absurd (omega arith)), above b es both.1)

  apart : (es : List (ℕ × Kept V)) → T (is_sorted nat_cmp es) → IsDistinct nat_eq (keys_of (list_map (λ e. (e.0, e.1.count)) es))
  unfolding IsDistinct
  apart [] sorted = tt
  apart (e ∷ es) sorted = let both = parts _ _ sorted in (above e.0 es both.0, apart es both.1)

  -- no birth of a map is listed twice
  pub births_apart : (m : FinMap nat_cmp (Kept V)) (counts : List (ℕ × ℕ)) → IsPermutation counts (listed_counts m) → IsDistinct nat_eq (keys_of counts)
  births_apart m counts listed =
      IsDistinct-IsPermutation nat_eq nat_eq_equiv.symm _ _ (IsPermutation-map (λ e. e.0) _ _ (IsPermutation-sym counts (listed_counts m) listed)) (apart (entries m) (entries_sorted m))

  counts_found : (q : ℕ) (es : List (ℕ × Kept V)) → lookup (nat_eq q) (list_map (λ e. (e.0, e.1.count)) es) ≡ option_map (λ k. k.count) (find nat_cmp q es)
  counts_found q [] = refl
  counts_found q (e ∷ es) = grind (arith, counts_found q es, tied q e.0)

  module _ (children : V → List Name) (s : State V) (counts : List (ℕ × ℕ)) (listed : IsPermutation counts (listed_counts s.map)) where
    -- a look-up in the counts finds the count of an entry
    lookup_count : (q : ℕ) → lookup (nat_eq q) counts ≡ option_map (λ k. k.count) (entry_at s q)
    lookup_count q =
        lookup_permutation q counts (listed_counts s.map) listed (births_apart s.map counts listed) (apart (entries s.map) (entries_sorted s.map))
        ∙ counts_found q (entries s.map) ∙ ap (option_map (λ k. k.count)) (sym (get-entries s.map q))

    told_counted : (x : Name) → counted_in (counted_entries s.number counts) x ≡ counted_in (entries_of children s) x
    told_counted x =
        grind (arith, counts_told s.number counts x, lookup_count x.birth, entry_named children s x)

    many : length (counted_entries s.number counts) ≡ length (entries_of children s)
    many = length-map counts _ ∙ sym (length_permutation counts (listed_counts s.map) listed) ∙ length-map (entries s.map) _ ∙ sym (length-map (entries s.map) _)

  -- with the counts of a storage's table, its entries are learnt
  pub storage_learnt : (roots : Bool) (children : V → List Name) (s : State V) (m : FinMap nat_cmp (Kept V)) (number : ℕ) (counts : List (ℕ × ℕ)) → m ≡ s.map → number ≡ s.number → IsPermutation counts (listed_counts m)
      → (old new : Marks) → Learns roots (counted_entries number counts) old new → Learns roots (entries_of children s) old new
  storage_learnt roots children s m number counts same named listed old new is =
      let all = subst (λ m. IsPermutation counts (listed_counts m)) same listed in
      learns_same roots (counted_entries s.number counts) (entries_of children s) old new (told_counted children s counts all) (many children s counts all)
      (subst (λ n. Learns roots (counted_entries n counts) old new) named is)
