-- What a path is made of.
use Rattle.std.proofs.Common.{◌≡◌, true, Some, refl, ap}
use Rattle.ra_ap_intern.specs.Handle.{name_if}
use Rattle.ra_ap_intern.specs.Name.{Name}
use Rattle.ra_ap_intern.specs.Names.{has}
use Rattle.ra_ap_intern.specs.declared.kind.Values.{Values}
use Rattle.ra_ap_intern.specs.declared.optional.OptionalRef.{OptionalRef}
use Rattle.ra_ap_intern.specs.declared.symbol.SymbolRef.{SymbolRef}
use Rattle.ra_ap_intern.proofs.CallerLemmas.{parent_declared}
use Rattle.use_paths.specs.Paths.{declared_by, open_parent, parent_of}
use Rattle.use_paths.specs.declared.Path.{Path}
use Rattle.use_paths.specs.declared.Path.TheVariants.{Within, Within', outs-Within}

pub is_within : (path : Path)
    → (parent : OptionalRef (Values Path)) × (name : SymbolRef) × (path ≡ Within parent name)
is_within (Within' key marker name) = (record { key = key; marker = marker }, name, refl)

-- it has this parent, which it declares
pub parent_is : (parent : OptionalRef (Values Path)) (name : SymbolRef)
    → parent_of (Within parent name) ≡ name_if parent
parent_is parent name = ap open_parent (outs-Within parent name)

pub declares : (path : Path) (name : Name) → parent_of path ≡ Some name
    → has (declared_by path) name ≡ true
declares path = parent_declared (parent_of path)
