-- What roots list that a map declares: what its keys declare, and what is under them.
use Rattle.std.proofs.Common.{◌≡◌, zero, suc, Bool, true, false, List, [], ◌∷◌, ◌++◌, Some, is_some, Result, Contains, cond, refl, sym, ap, subst, ◌∙◌, arith}
use Rattle.std.specs.HashMap.{HashMap, get_by}
use Rattle.std.specs.List.{flat_map}
use Rattle.std.specs.Map.{lookup}
use Rattle.std.specs.declared.alloc.AllocError.{AllocError}
use Rattle.std.proofs.lemmas.Bool.{or_left, or_right}
use Rattle.std.proofs.lemmas.List.Folds.{list_any-append}
use Rattle.std.proofs.lemmas.Option.{same_Some}
use Rattle.ra_ap_intern.specs.Families.{entries_of}
use Rattle.ra_ap_intern.specs.Handle.{ref_name}
use Rattle.ra_ap_intern.specs.Name.{Name}
use Rattle.ra_ap_intern.specs.Named.{same_name}
use Rattle.ra_ap_intern.specs.Names.{has}
use Rattle.ra_ap_intern.specs.Reach.{starts_with}
use Rattle.ra_ap_intern.specs.State.{State, reads}
use Rattle.ra_ap_intern.specs.Symbols.{Named, same_named, symbol_ref_name}
use Rattle.ra_ap_intern.specs.Under.{under_name, Covers, under_symbol}
use Rattle.ra_ap_intern.specs.Visitors.{of_map, own_name}
use Rattle.ra_ap_intern.specs.declared.gc.Collected.{Collected}
use Rattle.ra_ap_intern.specs.declared.storage.Ref.{Ref}
use Rattle.ra_ap_intern.specs.declared.symbol.SymbolRef.{SymbolRef}
use Rattle.ra_ap_intern.proofs.CallerViews.{CollectsOne, root_collected}

-- two lists in one have the names of both
pub has_front : (names others : List Name) (n : Name) → has names n ≡ true
    → has (names ++ others) n ≡ true
has_front names others n is = list_any-append (same_name n) names others ∙ or_left _ _ is

pub has_back : (names others : List Name) (n : Name) → has others n ≡ true
    → has (names ++ others) n ≡ true
has_back names others n is =
    list_any-append (same_name n) names others ∙ or_right (has names n) _ is

-- what an element declares is among what all declare
pub has_each : {X : Type 0} (children : X → List Name) (xs : List X) (x : X) (n : Name)
    → Contains xs x → has (children x) n ≡ true → has (flat_map children xs) n ≡ true
has_each children [] x n among is = let lt = among.1 in absurd (omega arith)
has_each children (y ∷ ys) x n (zero, lt, same) is =
    has_front (children y) (flat_map children ys) n (subst (λ z. has (children z) n ≡ true) (sym same) is)
has_each children (y ∷ ys) x n (suc k, lt, same) is =
    has_back (children y) (flat_map children ys) n
    (has_each children ys x n (k, omega (arith, lt), same) is)

module _ {K V : Type 0} (keys : K → List Name) (values : V → List Name) where
  abbrev of_entry : K × V → List Name
  of_entry e = keys e.0 ++ values e.1

  -- what the key of an entry declares is listed
  pub key_listed : {S : Type 0} (map : HashMap K V S) (key : K) (v : V) (n : Name)
      → Contains map.entries (key, v) → has (keys key) n ≡ true → has (of_map keys values map) n ≡ true
  key_listed map key v n among is =
      has_each of_entry map.entries (key, v) n among (has_front (keys key) (values v) n is)

  -- and so is what the value under it declares
  pub value_listed : {S : Type 0} (map : HashMap K V S) (key : K) (v : V) (n : Name)
      → Contains map.entries (key, v) → has (values v) n ≡ true → has (of_map keys values map) n ≡ true
  value_listed map key v n among is =
      has_each of_entry map.entries (key, v) n among (has_back (keys key) (values v) n is)

  -- what a key that passes a test declares, with the first value under such a key
  found_listed : (test : K → Bool) (n : Name) (v : V)
      → ((k : K) → test k ≡ true → has (keys k ++ values v) n ≡ true) → (es : List (K × V))
      → lookup test es ≡ Some v → has (flat_map of_entry es) n ≡ true
  found_listed test n v each [] at = absurd (cc)
  found_listed test n v each (e ∷ es) at = go (test e.0) refl at (found_listed test n v each es)
    where
      go : (t : Bool) → test e.0 ≡ t → cond t (Some e.1) (lookup test es) ≡ Some v
          → (lookup test es ≡ Some v → has (flat_map of_entry es) n ≡ true)
          → has (flat_map of_entry (e ∷ es)) n ≡ true
      go true passes found later =
          has_front (of_entry e) (flat_map of_entry es) n
          (subst (λ w. has (keys e.0 ++ values w) n ≡ true) (sym (same_Some _ _ found)) (each e.0 passes))
      go false fails found later = has_back (of_entry e) (flat_map of_entry es) n (later found)

  -- and what the value declares that is found under a key that passes a test
  pub found_value_listed : {S : Type 0} (test : K → Bool) (map : HashMap K V S) (v : V) (n : Name)
      → get_by test map ≡ Some v → has (values v) n ≡ true → has (of_map keys values map) n ≡ true
  found_value_listed test map v n at is =
      found_listed test n v (λ k passes. has_back (keys k) (values v) n is) map.entries at

module _ {K V S : Type 0} (values : V → List Name) (map : HashMap (Ref K) V S) where
  -- a name under which the map has something is listed
  pub name_listed : (n : Name) (v : V) → under_name map n ≡ Some v
      → has (of_map own_name values map) n ≡ true
  name_listed n v at =
      found_listed own_name values (λ r. same_name n (ref_name r)) n v
      (λ r same. has_front (own_name r) (values v) n (or_left _ _ same)) map.entries at

  -- and so is what the value under it declares
  pub under_name_listed : (keys : Ref K → List Name) (n : Name) (v : V) (m : Name)
      → under_name map n ≡ Some v → has (values v) m ≡ true → has (of_map keys values map) m ≡ true
  under_name_listed keys n v m =
      found_value_listed keys values (λ r. same_name n (ref_name r)) map v m

  -- a collection of one storage from this map
  module _ {T : Type 0} (children : T → List Name) (s t : State T) (r : Result Collected AllocError) (is : CollectsOne children (starts_with (of_map own_name values map) (entries_of children s)) s t r) where
    -- what is read stays under each name under which the map has something
    pub name_collected : (n : Name) (v : V) → under_name map n ≡ Some v → reads t n ≡ reads s n
    name_collected n v at =
        root_collected children (of_map own_name values map) s t r is n (name_listed n v at)

    -- so that the map stays covered
    pub covers_collected : Covers s map → Covers t map
    covers_collected covers n v at = ap is_some (name_collected n v at) ∙ covers n v at

-- of a map under symbols, what the value under one declares
pub under_symbol_listed : {V S : Type 0} (keys : SymbolRef → List Name) (values : V → List Name)
    (map : HashMap SymbolRef V S) (a : Named) (v : V) (n : Name) → under_symbol map a ≡ Some v
    → has (values v) n ≡ true → has (of_map keys values map) n ≡ true
under_symbol_listed keys values map a v n =
    found_value_listed keys values (λ s. same_named a (symbol_ref_name s)) map v n
