-- Buckets, and which of them a search meets.
use Rattle.std.specs.Prelude.{ℕ, ◌+◌, ◌-◌, ◌*◌, ◌/◌, ◌%◌, ◌^◌, nat_eq}
use Rattle.std.specs.Prelude.{Bool, false, not, ◌&&◌, ◌||◌, List, [], ◌∷◌, count_by}
use Rattle.intern_buckets.specs.declared.buckets.Bucket.{Bucket}

-- the bucket of an entry: its place above 16 bits of its hash
abbrev pub bucket : ℕ → ℕ → Bucket
bucket h p = record { 0 = p * 2 ^ 16 + h % 2 ^ 16 }

-- what the bucket of no entry holds
abbrev pub no_entry : ℕ
no_entry = 2 ^ 64 - 1

-- whether a bucket is that of no entry
abbrev pub is_empty : Bucket → Bool
is_empty b = nat_eq b.0 no_entry

-- how many buckets are not empty
abbrev pub full_count : List Bucket → ℕ
full_count bs = count_by (λ b. not (is_empty b)) bs

-- where the probe sequence of a hash begins, among this many homes
abbrev pub home : ℕ → ℕ → ℕ
home homes h = (h * homes) / 2 ^ 64

-- whether a bucket is met before an empty one
abbrev pub is_reachable : Bucket → List Bucket → Bool
is_reachable b [] = false
is_reachable b (c ∷ cs) = not (is_empty c) && (nat_eq b.0 c.0 || is_reachable b cs)
