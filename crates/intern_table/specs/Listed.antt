-- What the iterators of tables give.
use Rattle.std.specs.Prelude.{ℕ, List, Result, map as list_map}
use Rattle.std.specs.Ordering.{nat_cmp}
use Rattle.std.specs.FinMap.{FinMap, entries}
use Rattle.intern_store.specs.Kept.{Kept}
use Rattle.intern_table.specs.Read.{shown, shown_row}
use Rattle.intern_table.specs.Sliced.{Sliced}
use Rattle.intern_table.specs.declared.layout.SliceRow.{SliceRow}
use Rattle.intern_table.specs.declared.pool.SlicePayload.{SlicePayload}

-- the count of a slice
abbrev pub slice_count : SlicePayload → ℕ
slice_count p = p.count

-- each birth with the count of its entry
abbrev pub listed_counts : {V : Type 0} → FinMap nat_cmp (Kept V) → List (ℕ × ℕ)
listed_counts m = list_map (λ e. (e.0, e.1.count)) (entries m)

-- each birth with its value and its count
abbrev pub listed_values : {T : Type 0} → FinMap nat_cmp (Kept T) → List (ℕ × (T × ℕ))
listed_values m = list_map (λ e. (e.0, (e.1.value, e.1.count))) (entries m)

module _ {H S : Type 0} where
  -- each birth with its header and items, and how many these are
  abbrev pub listed_slices : FinMap nat_cmp (Kept (Sliced H S)) → List (ℕ × (Sliced H S × ℕ))
  listed_slices m = list_map (λ e. (e.0, shown e.1)) (entries m)

  -- what is given of a row, where these items lie in the vector
  abbrev pub slice_among : {A : Type 0} → (A → Result (List S) ℕ) → List S
      → ℕ × (SliceRow H A × SlicePayload) → ℕ × (Sliced H S × ℕ)
  slice_among near xs e = (e.0, shown_row near xs e.1.0 e.1.1)
