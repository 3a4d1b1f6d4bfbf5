-- The entries of a slab as a list, and those of the map that they make.
use Rattle.std.proofs.Common.{◌≡◌, ℕ, ◌+◌, suc, List, [], ◌∷◌, length, Option, Some, None, refl, sym, subst, ◌∙◌, arith}
use Rattle.std.specs.Prelude.{IsPermutation, map as list_map}
use Rattle.std.specs.Ordering.{nat_cmp}
use Rattle.std.specs.FinMap.{FinMap, entries, empty, len-entries, len-empty}
use Rattle.std.proofs.lemmas.List.Sorted.{IsPermutation-refl, IsPermutation-trans, IsPermutation-cons, IsPermutation-map}
use Rattle.slab.specs.Slab.{Slab, entries_from, entries as slab_entries}
use Rattle.intern_store.proofs.Listing.{inserted_fresh}
use Rattle.intern_index.specs.IndexEntry.{IndexEntry}
use Rattle.intern_index.specs.Entries.{seen, held_from, held}
use Rattle.intern_index.specs.Listed.{listed_at, listed_of, listed}
use Rattle.intern_index.specs.declared.entry.Entry.{Entry}
use Rattle.intern_index.proofs.Held.{IsApart, IsApartFrom, apart_from, absent_behind}

no_entry : {X : Type 0} (xs : List X) → length xs ≡ 0 → xs ≡ []
no_entry [] none = refl
no_entry (x ∷ xs) none = absurd (cc)

module _ {T N : Type 0} where
  listed_from : (first : ℕ) (slots : List (Option (Entry T N))) → IsApartFrom slots → IsPermutation (list_map listed_at (entries_from first slots)) (listed (held_from first slots))
  unfolding held_from
  listed_from first [] apart = subst (λ es. IsPermutation [] (list_map listed_of es)) (sym (no_entry (entries empty) (sym (len-entries empty) ∙ len-empty nat_cmp (IndexEntry T N)))) (IsPermutation-refl [])
  listed_from first (None ∷ slots) apart = listed_from (first + 1) slots (λ p q d e one two same. let is = apart (suc p) (suc q) d e one two same in omega arith)
  listed_from first (Some d ∷ slots) apart =
      IsPermutation-trans _ _ _
      (IsPermutation-cons (listed_at (first, d)) _ _ (listed_from (first + 1) slots (λ p q d e one two same. let is = apart (suc p) (suc q) d e one two same in omega arith)))
      (IsPermutation-map listed_of _ _ (inserted_fresh (held_from (first + 1) slots) d.birth (seen first d) (absent_behind first d slots apart)))

  -- a slab lists what the map has that is seen
  pub listed_in : (s : Slab (Entry T N)) (m : FinMap nat_cmp (IndexEntry T N)) → held s.slots ≡ m → IsApart s → IsPermutation (list_map listed_at (slab_entries s)) (listed m)
  listed_in s m view apart = subst (λ m. IsPermutation (list_map listed_at (slab_entries s)) (listed m)) view (listed_from 0 s.slots (apart_from s apart))
