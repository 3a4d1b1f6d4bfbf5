-- The entries of an index as a list.
use Rattle.std.specs.Prelude.{ℕ, List, map as list_map}
use Rattle.std.specs.Ordering.{nat_cmp}
use Rattle.std.specs.FinMap.{FinMap, entries}
use Rattle.intern_index.specs.IndexEntry.{IndexEntry}
use Rattle.intern_index.specs.declared.entry.Entry.{Entry}

module _ {T N : Type 0} where
  -- what is listed of an entry at a place: its birth, its value and its payload
  abbrev pub listed_at : ℕ × Entry T N → ℕ × (T × N)
  listed_at e = (e.1.birth, (e.1.value, e.1.payload))

  -- what is listed of the entry of a birth
  abbrev pub listed_of : ℕ × IndexEntry T N → ℕ × (T × N)
  listed_of e = (e.0, (e.1.value, e.1.payload))

  -- what is listed of all entries, in the order of births
  abbrev pub listed : FinMap nat_cmp (IndexEntry T N) → List (ℕ × (T × N))
  listed m = list_map listed_of (entries m)
