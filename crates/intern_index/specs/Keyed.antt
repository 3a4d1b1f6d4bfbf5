-- Which entries a table leads to.
use Rattle.std.specs.Prelude.{◌≡◌, ℕ, true, Option, Some, IfSome}
use Rattle.slab.specs.Slab.{Slab, get}
use Rattle.intern_buckets.specs.Leading.{leads}
use Rattle.intern_buckets.specs.declared.buckets.Buckets.{Buckets}
use Rattle.intern_index.specs.declared.entry.Entry.{Entry}

-- the probe sequence of its key leads to each entry that has one
abbrev pub IsKeyed : {T N : Type 0} → Buckets → (ℕ → Entry T N → Option ℕ) → Slab (Entry T N) → Type 0
IsKeyed {T} {N} t key s = (p : ℕ) (e : Entry T N) → get s p ≡ Some e → IfSome (key p e) (λ h. leads t h p ≡ true)
