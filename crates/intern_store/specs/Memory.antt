-- What a storage holds at least.
use Rattle.std.specs.Prelude.{ℕ, ◌*◌, ◌-◌, ◌^◌, min}

-- so many entries take eight bytes each at least; a `usize` tells no more than its largest value
abbrev pub least_memory : ℕ → ℕ
least_memory entries = min (entries * 8) (2 ^ 64 - 1)
