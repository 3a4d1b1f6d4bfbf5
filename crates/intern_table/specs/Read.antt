-- What a read shows.
use Rattle.std.specs.Prelude.{ℕ, List, Result, length}
use Rattle.intern_store.specs.Kept.{Kept}
use Rattle.intern_table.specs.Joined.{items_in}
use Rattle.intern_table.specs.Sliced.{Sliced}
use Rattle.intern_table.specs.declared.layout.SliceRow.{SliceRow}
use Rattle.intern_table.specs.declared.pool.SlicePayload.{SlicePayload}
use Rattle.intern_table.specs.declared.slice.HeaderSlice.{HeaderSlice}

-- the header with its list, and the length that is told
abbrev pub read : {H S : Type 0} → HeaderSlice H S → Sliced H S × ℕ
read r = (record { header = r.header.header.now; items = r.slice.now }, r.header.length)

-- what is kept, and the length of its list
abbrev pub shown : {H S : Type 0} → Kept (Sliced H S) → Sliced H S × ℕ
shown k = (k.value, length k.value.items)

-- what a row keeps, where these items lie in the vector, and the length of its list
abbrev pub shown_row : {H S A : Type 0} → (A → Result (List S) ℕ) → List S → SliceRow H A → SlicePayload
    → Sliced H S × ℕ
shown_row near xs v p =
    shown (record {
      value = record { header = v.header; items = items_in (near v.near) p.start xs };
      count = p.count;
    })
