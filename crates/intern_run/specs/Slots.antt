-- What slots are seen as: the names of their handles.
use Rattle.std.specs.Prelude.{ℕ, List, Option, slice_get, option_and_then, map, refl}
use Rattle.std.specs.Coded.{Coded, code_by, coded×, coded_ℕ}
use Rattle.std.specs.Option.{option_map}
use Rattle.ra_ap_intern.specs.Handle.{name_of}
use Rattle.ra_ap_intern.specs.Name.{Name}
use Rattle.ra_ap_intern.specs.declared.storage.Owned.{Owned}

abbrev pub name_code : Coded Name
name_code =
    code_by (ℕ × ℕ) (coded× coded_ℕ coded_ℕ)
    (λ n. (n.storage, n.birth)) (λ p. record { storage = p.0; birth = p.1 }) (λ _. refl)

-- the names of the handles
abbrev pub names : {K : Type 0} → List (Option (Owned K)) → List (Option Name)
names slots = map (option_map name_of) slots

-- what a slot holds: nothing where it is empty or isn't there
abbrev pub handle_at : {H : Type 0} → List (Option H) → ℕ → Option H
handle_at slots n = option_and_then (λ slot. slot) (slice_get slots n)
