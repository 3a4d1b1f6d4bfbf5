-- Which places the probe sequence of a hash leads to.
use Rattle.std.specs.Prelude.{ℕ, Bool, List, drop}
use Rattle.intern_buckets.specs.Probing.{bucket, home, is_reachable}
use Rattle.intern_buckets.specs.declared.buckets.Bucket.{Bucket}
use Rattle.intern_buckets.specs.declared.buckets.Buckets.{Buckets}

-- the buckets from the home of a hash on
abbrev pub probe_sequence : Buckets → ℕ → List Bucket
probe_sequence t h = drop (home t.homes h) t.buckets.items

-- whether the probe sequence of a hash leads to a place
abbrev pub leads : Buckets → ℕ → ℕ → Bool
leads t h p = is_reachable (bucket h p) (probe_sequence t h)
