-- What an index has.
use Rattle.std.specs.Prelude.{◌≡◌, ℕ, zero, suc, Bool, true, false, Option, Some, None, refl, nat_eq}
use Rattle.std.specs.Ordering.{nat_cmp}
use Rattle.std.specs.FinMap.{FinMap, code as map_code, entries, get}
use Rattle.std.specs.List.{slice_get}
use Rattle.std.specs.Option.{option_map}
use Rattle.std.specs.Coded.{Coded, code_by, coded×, coded_ℕ}
use Rattle.intern_store.specs.Maps.{modify}
use Rattle.intern_store.specs.declared.names.Spot.{Spot}
use Rattle.intern_buckets.specs.Leading.{leads}
use Rattle.intern_buckets.specs.declared.buckets.Buckets.{Buckets}

-- a place and a value, which never change, and a payload, which may
pub record IndexEntry (T N : Type 0) : Type 0 where
  pub place : ℕ
  pub value : T
  pub payload : N

abbrev pub index_entry_code : {T N : Type 0} → Coded T → Coded N → Coded (IndexEntry T N)
index_entry_code {T} {N} value payload =
    code_by (ℕ × (T × N)) (coded× coded_ℕ (coded× value payload))
    (λ e. (e.place, (e.value, e.payload)))
    (λ p. record { place = p.0; value = p.1.0; payload = p.1.1 }) (λ _. refl)

-- the entries under their births, the table of their places by hashes, and how many more entries
-- are taken with no request for memory
pub record Indexed (T N : Type 0) : Type 0 where
  pub entries : FinMap nat_cmp (IndexEntry T N)
  pub buckets : Buckets
  pub room : ℕ

abbrev pub indexed_code : {T N : Type 0} → Coded T → Coded N → Coded Buckets → Coded (Indexed T N)
indexed_code {T} {N} value payload buckets =
    code_by (FinMap nat_cmp (IndexEntry T N) × (Buckets × ℕ))
    (coded× (map_code coded_ℕ (index_entry_code value payload)) (coded× buckets coded_ℕ))
    (λ i. (i.entries, (i.buckets, i.room)))
    (λ p. record { entries = p.0; buckets = p.1.0; room = p.1.1 }) (λ _. refl)

module _ {T N : Type 0} where
  -- the probe sequence of its hash leads to each entry
  pub record IsLed (hash_of : T → N → ℕ) (index : Indexed T N) : Type 0 where
    pub led : (b : ℕ) (e : IndexEntry T N) → get index.entries b ≡ Some e
        → leads index.buckets (hash_of e.value e.payload) e.place ≡ true

  -- whether there is a value of this hash
  abbrev pub has_hash : (T → N → ℕ) → ℕ → Option (IndexEntry T N) → Bool
  has_hash hash_of h None = false
  has_hash hash_of h (Some e) = nat_eq h (hash_of e.value e.payload)

  -- whether there is a value, and it passes a test with its payload
  abbrev pub is_sought : (T → N → Bool) → Option (IndexEntry T N) → Bool
  is_sought fits None = false
  is_sought fits (Some e) = fits e.value e.payload

  -- with another payload of a birth that has an entry
  abbrev pub with_payload : (N → N) → FinMap nat_cmp (IndexEntry T N) → ℕ → Option (IndexEntry T N)
      → FinMap nat_cmp (IndexEntry T N)
  with_payload f = modify (λ e. record e { payload = f e.payload })

  -- the index with another payload of a birth
  abbrev pub repaid : (N → N) → Indexed T N → ℕ → Indexed T N
  repaid f index b = record index { entries = with_payload f index.entries b (get index.entries b) }

  -- where an entry lies
  abbrev pub spot_of : ℕ × IndexEntry T N → Spot
  spot_of e = record { birth = e.0; place = e.1.place }

  -- where the entry of a rank in the order of births lies, and that of the rank before
  abbrev pub spot_at : FinMap nat_cmp (IndexEntry T N) → ℕ → Option Spot
  spot_at m at = option_map spot_of (slice_get (entries m) at)

  abbrev pub spot_before : FinMap nat_cmp (IndexEntry T N) → ℕ → Option Spot
  spot_before m zero = None
  spot_before m (suc n) = spot_at m n
