-- What a sweep keeps.
use Rattle.std.specs.Prelude.{ℕ, Bool, if◌then◌else◌, Option, Some, None}
use Rattle.intern_index.specs.declared.entry.Entry.{Entry}

-- an entry, where its birth is marked
abbrev pub if_marked : {T N : Type 0} → (ℕ → Bool) → Option (Entry T N) → Option (Entry T N)
if_marked marked None = None
if_marked marked (Some e) = if marked e.birth then Some e else None
