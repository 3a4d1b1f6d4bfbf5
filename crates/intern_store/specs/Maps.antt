-- Finite maps from births: with another value at one, and seen as another map.
use Rattle.std.specs.Prelude.{ℕ, Option, Some, None, map as list_map}
use Rattle.std.specs.Ordering.{nat_cmp}
use Rattle.std.specs.FinMap.{FinMap, entries, from_sorted, insert}

-- a map with another value at a key, where it has one
abbrev pub modify : {X : Type 0} → (X → X) → FinMap nat_cmp X → ℕ → Option X → FinMap nat_cmp X
modify f m b None = m
modify f m b (Some x) = insert m b (f x)

-- a map with each value turned into another
unfoldable pub map_values : {X Y : Type 0} → (X → Y) → FinMap nat_cmp X → FinMap nat_cmp Y
map_values f m = from_sorted (list_map (λ e. (e.0, f e.1)) (entries m))
