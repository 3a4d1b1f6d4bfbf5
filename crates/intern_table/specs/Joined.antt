-- How an index and a vector of items make one map.
use Rattle.std.specs.Prelude.{ℕ, ◌+◌, ◌<◌, ◌≤◌, ◌≡◌, List, length, take, drop, Some, Result, Ok, Err}
use Rattle.std.specs.Ordering.{nat_cmp}
use Rattle.std.specs.FinMap.{FinMap, get}
use Rattle.intern_store.specs.Kept.{Kept}
use Rattle.intern_index.specs.IndexEntry.{IndexEntry, Indexed, IsLed}
use Rattle.intern_table.specs.Sliced.{Sliced}
use Rattle.intern_table.specs.declared.layout.SliceRow.{SliceRow}
use Rattle.intern_table.specs.declared.pool.SlicePayload.{SlicePayload}

-- an entry of the index: a header with what its entry has of the items, and where the others lie
abbrev pub Row : Type 0 → Type 0 → Type 0
Row H A = IndexEntry (SliceRow H A) SlicePayload

module _ {S : Type 0} where
  -- how many items lie in the vector, of which an entry has this: none where it has them itself
  abbrev pub far_in : Result (List S) ℕ → ℕ
  far_in (Ok own) = 0
  far_in (Err n) = n

  -- the items of an entry: its own, or so many in the vector from a start on
  abbrev pub items_in : Result (List S) ℕ → ℕ → List S → List S
  items_in (Ok own) start xs = own
  items_in (Err n) start xs = take n (drop start xs)

  -- an entry has these items, or knows how many they are
  abbrev pub HasItems : Result (List S) ℕ → List S → Type 0
  HasItems (Ok own) xs = own ≡ xs
  HasItems (Err n) xs = n ≡ length xs

-- given what an entry has of its items: all, or how many lie in the vector
module _ {H S A : Type 0} (near : A → Result (List S) ℕ) where
  -- how many items of a row lie in the vector, and where they end
  abbrev pub far : Row H A → ℕ
  far r = far_in (near r.value.near)

  abbrev pub end_of : Row H A → ℕ
  end_of r = r.payload.start + far r

  -- the lists lie among this many items, in the order of their births
  pub record IsLaid (m : FinMap nat_cmp (Row H A)) (n : ℕ) : Type 0 where
    pub within : (b : ℕ) (r : Row H A) → get m b ≡ Some r → end_of r ≤ n
    pub apart : (b c : ℕ) (r s : Row H A) → b < c
        → get m b ≡ Some r → get m c ≡ Some s → end_of r ≤ s.payload.start

  -- an entry's list has the item at this index
  pub record IsCovered (m : FinMap nat_cmp (Row H A)) (i : ℕ) : Type 0 where
    pub birth : ℕ
    pub row : Row H A
    pub there : get m birth ≡ Some row
    pub from : row.payload.start ≤ i
    pub below : i < end_of row

  -- the entry of a row, where these items lie in the vector
  abbrev pub sliced_entry : List S → Row H A → Kept (Sliced H S)
  sliced_entry xs r = record {
    value = record {
      header = r.value.header;
      items = items_in (near r.value.near) r.payload.start xs;
    };
    count = r.payload.count;
  }

  -- the place of a row, and its entry
  abbrev pub read_entry : List S → Row H A → ℕ × Kept (Sliced H S)
  read_entry xs r = (r.place, sliced_entry xs r)

  -- the hash of a header with its items, where these lie in the vector
  abbrev pub sliced_hash : (Sliced H S → ℕ) → List S → SliceRow H A → SlicePayload → ℕ
  sliced_hash hash xs v p =
      hash (record { header = v.header; items = items_in (near v.near) p.start xs })

  pub record IsJoined (rows : FinMap nat_cmp (Row H A)) (items : List S) : Type 0 where
    pub laid : IsLaid rows (length items)
    -- no item is left that no list has
    pub full : (i : ℕ) → i < length items → IsCovered rows i

  pub record IsSliced (hash : Sliced H S → ℕ) (index : Indexed (SliceRow H A) SlicePayload)
      (items : List S) : Type 0
    where
      pub joined : IsJoined index.entries items
      -- the hash of its header and items leads to each row
      pub led : IsLed (sliced_hash hash items) index
