-- How what an index has is seen as the entries of a table.
use Rattle.std.specs.Prelude.{ℕ}
use Rattle.intern_store.specs.Kept.{Kept}
use Rattle.intern_index.specs.IndexEntry.{IndexEntry}

-- the entry whose payload is its count
abbrev pub kept_entry : {T : Type 0} → IndexEntry T ℕ → Kept T
kept_entry r = record { value = r.value; count = r.payload }
