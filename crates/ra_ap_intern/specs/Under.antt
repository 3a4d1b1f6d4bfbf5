-- What maps under handles and symbols have.
use Rattle.std.specs.Prelude.{◌≡◌, ℕ, Bool, List, Option, Some, IsSome, option_and_then}
use Rattle.std.specs.HashMap.{HashMap, get_by}
use Rattle.intern_store.specs.Named.{same_name}
use Rattle.intern_store.specs.State.{State, reads, name_of_value}
use Rattle.intern_store.specs.declared.names.Name.{Name}
use Rattle.ra_ap_intern.specs.Handle.{ref_name}
use Rattle.ra_ap_intern.specs.Symbols.{Named, same_named, named_in, symbol_ref_name, text_of}
use Rattle.ra_ap_intern.specs.declared.storage.Ref.{Ref}
use Rattle.ra_ap_intern.specs.declared.symbol.SymbolRef.{SymbolRef}

module _ {K M S : Type 0} where
  -- under a name
  abbrev pub under_name : HashMap (Ref K) M S → Name → Option M
  under_name map name = get_by (λ r. same_name name (ref_name r)) map

  -- under the name of a value that is stored
  abbrev pub under_value : {V : Type 0} → (V → V → Bool) → State V → HashMap (Ref K) M S → V → Option M
  under_value eq s map value = option_and_then (under_name map) (name_of_value eq s value)

  -- each name under which a map has something is read
  abbrev pub Covers : {V : Type 0} → State V → HashMap (Ref K) M S → Type 0
  Covers s map = (n : Name) (m : M) → under_name map n ≡ Some m → IsSome (reads s n)

module _ {M S : Type 0} where
  -- under a symbol
  abbrev pub under_symbol : HashMap SymbolRef M S → Named → Option M
  under_symbol map symbol = get_by (λ s. same_named symbol (symbol_ref_name s)) map

  -- under the symbol of a text
  abbrev pub under_text : State (List ℕ) → HashMap SymbolRef M S → List ℕ → Option M
  under_text table map text = option_and_then (under_symbol map) (named_in table text)

  -- each symbol under which a map has something has a text
  abbrev pub CoversTexts : State (List ℕ) → HashMap SymbolRef M S → Type 0
  CoversTexts table map = (a : Named) (m : M) → under_symbol map a ≡ Some m
      → IsSome (text_of table a)
