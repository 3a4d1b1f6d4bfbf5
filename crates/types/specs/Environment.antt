-- What is declared in an environment.
use Rattle.std.specs.Prelude.{◌≡◌, false, Option, Some, List, map}
use Rattle.std.specs.Option.{option_map}
use Rattle.std.specs.HashMap.{HashMap, values}
use Rattle.ra_ap_intern.specs.Handle.{ref_name}
use Rattle.ra_ap_intern.specs.Name.{Name}
use Rattle.ra_ap_intern.specs.Symbols.{Named, same_named}
use Rattle.ra_ap_intern.specs.Under.{under_symbol}
use Rattle.ra_ap_intern.specs.declared.kind.Values.{Values}
use Rattle.ra_ap_intern.specs.declared.storage.Ref.{Ref}
use Rattle.ra_ap_intern.specs.declared.symbol.SymbolRef.{SymbolRef}
use Rattle.types.specs.Tree.{Tree, UnfoldsTo}
use Rattle.types.specs.declared.environment.Environment.{Environment}
use Rattle.types.specs.declared.value.TypeNode.{TypeNode}

module _ {S : Type 0} where
  -- the type that a name is declared with
  abbrev pub declared_as : HashMap SymbolRef (Ref (Values TypeNode)) S → Named → Option Name
  declared_as declared name = option_map ref_name (under_symbol declared name)

  -- the types of all names
  abbrev pub declared_types : HashMap SymbolRef (Ref (Values TypeNode)) S → List Name
  declared_types declared = map ref_name (values declared)

-- a name is declared with a type that unfolds to a tree
abbrev pub Declares : Environment → Named → Tree → Type 0
Declares e name t = (n : Name) × (declared_as e.declared name ≡ Some n) × UnfoldsTo e.types n t

-- what each other name is declared with stands for the tree that it stood for
abbrev pub KeepsOthers : Named → Environment → Environment → Type 0
KeepsOthers name old new = (other : Named) (tree : Tree) → same_named name other ≡ false
    → Declares old other tree → Declares new other tree
