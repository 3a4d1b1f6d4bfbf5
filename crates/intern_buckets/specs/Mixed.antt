-- The hash of a birth.
use Rattle.std.specs.Prelude.{ℕ, ◌*◌, ◌%◌, ◌^◌}

abbrev pub mixed : ℕ → ℕ
mixed b = (b * 0x9E37_79B9_7F4A_7C15) % 2 ^ 64
