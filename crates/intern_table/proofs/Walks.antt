-- What a walk over an index counts, and the entries that it is seen as.
use Rattle.std.proofs.Common.{◌≡◌, ℕ, List, ap, subst, ◌∙◌}
use Rattle.std.specs.Prelude.{IsPermutation, map as list_map}
use Rattle.std.specs.Ordering.{nat_cmp}
use Rattle.std.specs.FinMap.{FinMap, entries}
use Rattle.std.proofs.lemmas.List.Sorted.{IsPermutation-map}
use Rattle.std.proofs.lemmas.Simd.{map-map}
use Rattle.intern_store.specs.Kept.{Kept}
use Rattle.intern_store.specs.Maps.{map_values}
use Rattle.intern_store.proofs.Maps.{listed_through}
use Rattle.intern_index.specs.IndexEntry.{IndexEntry}
use Rattle.intern_index.specs.Listed.{listed_of, listed}
use Rattle.intern_table.specs.Listed.{listed_counts}

module _ {T N V : Type 0} (count : N → ℕ) (f : IndexEntry T N → Kept V) where
  -- where the count of a payload is that of the entry that is seen, the walk counts what is seen
  pub counted : ((r : IndexEntry T N) → count r.payload ≡ (f r).count)
      → (index : FinMap nat_cmp (IndexEntry T N)) (m : FinMap nat_cmp (Kept V)) → map_values f index ≡ m
      → (walk : List (ℕ × (T × N))) → IsPermutation walk (listed index) → IsPermutation (list_map (λ e. (e.0, count e.1.1)) walk) (listed_counts m)
  counted same index m view walk is =
      let told : ℕ × (T × N) → ℕ × ℕ = λ e. (e.0, count e.1.1) in
      subst (IsPermutation (list_map told walk))
      (map-map told listed_of (entries index) ∙ listed_through f (λ e. told (listed_of e)) (λ e. (e.0, e.1.count)) (λ e. ap (λ n. (e.0, n)) (same e.1)) index m view)
      (IsPermutation-map told walk _ is)
