-- What handles declare, and what is made of visitors.
use Rattle.std.specs.Prelude.{List, [], ◌∷◌, ◌++◌, Option, Some, None}
use Rattle.std.specs.HashMap.{HashMap}
use Rattle.std.specs.List.{flat_map}
use Rattle.intern_store.specs.declared.names.Name.{Name}
use Rattle.ra_ap_intern.specs.Handle.{name_of, ref_name}
use Rattle.ra_ap_intern.specs.declared.storage.Owned.{Owned}
use Rattle.ra_ap_intern.specs.declared.storage.Ref.{Ref}

-- a reference declares the name of its entry
abbrev pub own_name : {K : Type 0} → Ref K → List Name
own_name reference = ref_name reference ∷ []

-- and so does an owned handle
abbrev pub owned_name : {K : Type 0} → Owned K → List Name
owned_name handle = name_of handle ∷ []

-- an optional reference declares the name that it has
abbrev pub of_name : Option Name → List Name
of_name None = []
of_name (Some name) = name ∷ []

-- an option declares what is in it
abbrev pub of_option : {V : Type 0} → (V → List Name) → Option V → List Name
of_option children None = []
of_option children (Some v) = children v

-- a map declares what each key does, and what is under it
abbrev pub of_map : {K V S : Type 0} → (K → List Name) → (V → List Name) → HashMap K V S
    → List Name
of_map keys values map = flat_map (λ e. keys e.0 ++ values e.1) map.entries
