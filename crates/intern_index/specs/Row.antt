-- Births in row with their places.
use Rattle.std.specs.Prelude.{◌≡◌, ℕ, ◌+◌, ◌==◌, if◌then◌else◌, true, Option, Some, None, IfSome}
use Rattle.intern_buckets.specs.Leading.{leads}
use Rattle.intern_buckets.specs.Mixed.{mixed}
use Rattle.intern_buckets.specs.declared.buckets.Buckets.{Buckets}

-- the hash under which a birth at a place is entered: none where the birth is the place and the
-- shift
abbrev pub row_key : ℕ → ℕ → ℕ → Option ℕ
row_key shift p b = if p + shift == b then None else Some (mixed b)

-- each birth is in row, or the probe sequence of its hash leads to its place
abbrev pub AreFound : ℕ → Buckets → (ℕ → Option ℕ) → Type 0
AreFound shift t at = (p b : ℕ) → at p ≡ Some b → IfSome (row_key shift p b) (λ h. leads t h p ≡ true)
