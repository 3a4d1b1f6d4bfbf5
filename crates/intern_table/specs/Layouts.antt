-- What entries have of the items of their slices.
use Rattle.std.specs.Prelude.{ℕ, List, take, Result, Ok, Err}
use Rattle.intern_table.specs.declared.layout.OwnItems.{OwnItems}
use Rattle.intern_table.specs.declared.layout.OwnItems.TheVariants.{Near, Far}

-- the items that lie in an entry, or how many lie in the vector
abbrev pub own_items : {S : Type 0} {N : ℕ} → OwnItems S N → Result (List S) ℕ
own_items (Near own) = Ok (take own.length own.array)
own_items (Far length) = Err length
