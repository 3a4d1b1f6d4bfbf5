-- How full a table is.
use Rattle.std.specs.Prelude.{ℕ, ◌+◌, ◌-◌, ◌/◌, ◌^◌, ◌<◌, min}
use Rattle.std.specs.Vec.{vec_len, vec_capacity}
use Rattle.intern_buckets.specs.Probing.{full_count}
use Rattle.intern_buckets.specs.declared.buckets.Buckets.{Buckets}

-- how many homes there are
abbrev pub homes_of : Buckets → ℕ
homes_of t = t.homes

-- how many homes a table for this many places has: eight for each seven, if they can be counted
abbrev pub homes_for : ℕ → ℕ
homes_for places = min (places + places / 7) (2 ^ 64 - 1)

-- how many buckets are full
abbrev pub full_of : Buckets → ℕ
full_of t = full_count t.buckets.items

-- how many buckets there is room for
abbrev pub capacity_of : Buckets → ℕ
capacity_of t = vec_capacity t.buckets

-- how many more buckets there is room for
abbrev pub spare_of : Buckets → ℕ
spare_of t = capacity_of t - vec_len t.buckets

-- there is room for one more bucket
abbrev pub HasRoom : Buckets → Type 0
HasRoom t = 0 < spare_of t
