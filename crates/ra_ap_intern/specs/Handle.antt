-- The names of handles. Handles are equal exactly if their names are.
use Rattle.std.specs.Prelude.{ℕ, ◌-◌, ◌^◌, ◌==◌, if◌then◌else◌, min, Option, Some, None}
use Rattle.std.specs.Ordering.{nat_cmp, on, then_cmp}
use Rattle.std.specs.declared.cmp.Ordering.{Ordering}
use Rattle.intern_store.specs.Named.{key_name}
use Rattle.intern_store.specs.declared.names.Name.{Name}
use Rattle.ra_ap_intern.specs.declared.optional.OptionalRef.{OptionalRef}
use Rattle.ra_ap_intern.specs.declared.owed.Owed.{Owed}
use Rattle.ra_ap_intern.specs.declared.storage.Owned.{Owned}
use Rattle.ra_ap_intern.specs.declared.storage.Ref.{Ref}

module _ {K : Type 0} where
  -- the name of a reference
  abbrev pub ref_name : Ref K → Name
  ref_name h = key_name h.key

  -- the name of an owned handle
  abbrev pub name_of : Owned K → Name
  name_of h = ref_name h.reference

  -- the owned handle in one that must be released
  abbrev pub handle_of : Owed K → Owned K
  handle_of h = h.handle

-- the name of an optional reference, unless its place tells that there is none
abbrev pub name_if : {K : Type 0} → OptionalRef K → Option Name
name_if o = if o.key.spot.place == 2 ^ 64 - 1 then None else Some (key_name o.key)

-- the optional reference that is none
abbrev pub no_reference : {K : Type 0} → OptionalRef K
no_reference = record {
  key = record { storage = 0; spot = record { birth = 0; place = 2 ^ 64 - 1 } };
  marker = record {};
}

-- that of a reference, with its place, or another where that would tell that there is none
abbrev pub optional_of : {K : Type 0} → Ref K → OptionalRef K
optional_of h = record {
  key = record h.key { spot = record h.key.spot { place = min h.key.spot.place (2 ^ 64 - 2) } };
  marker = record {};
}

-- that of a reference, if there is one
abbrev pub optional_if : {K : Type 0} → Option (Ref K) → OptionalRef K
optional_if (Some h) = optional_of h
optional_if None = no_reference

-- the order of names: by the storages' numbers, and then by the births
abbrev pub name_cmp : Name → Name → Ordering
name_cmp = then_cmp (on (λ n. n.storage) nat_cmp) (on (λ n. n.birth) nat_cmp)

-- a value that a table lists under its birth, with its name in the storage of this number
abbrev pub with_name : {V : Type 0} → ℕ → ℕ × (V × ℕ) → Name × V
with_name number e = (record { storage = number; birth = e.0 }, e.1.0)
