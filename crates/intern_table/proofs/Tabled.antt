-- What is seen of a table.
use Rattle.std.proofs.Common.{◌≡◌, ap}
use Rattle.intern_table.specs.Tabled.{Tabled}

module _ {V B : Type 0} {s t : Tabled V B} where
  -- the entries of what is seen as another
  pub seen_entries : s ≡ t → s.entries ≡ t.entries
  seen_entries view = ap (λ t. t.entries) view

  -- and how it hashes
  pub seen_hasher : s ≡ t → s.hasher ≡ t.hasher
  seen_hasher view = ap (λ t. t.hasher) view
