-- What types are, and what a store of them reads.
use Rattle.std.specs.Prelude.{Option, Some, None, List, [], ◌∷◌}
use Rattle.std.specs.Option.{option_map}
use Rattle.ra_ap_intern.specs.Families.{entries_of}
use Rattle.ra_ap_intern.specs.Handle.{ref_name}
use Rattle.ra_ap_intern.specs.Name.{Name}
use Rattle.ra_ap_intern.specs.Reach.{Entry}
use Rattle.ra_ap_intern.specs.State.{State, reads}
use Rattle.ra_ap_intern.specs.Symbols.{Named, symbol_ref_name}
use Rattle.use_types.specs.declared.TypeNode.{TypeNode, out-TypeNode}
use Rattle.use_types.specs.declared.TypeNode.TheOpen.{TypeNode-F}

-- what a type is: its name, if it has one, and its parts
abbrev pub Shape : Type 0
Shape = Option Named × List Name

abbrev pub open_shape : TypeNode-F TypeNode → Shape
open_shape (TypeNode-F.Named name) = (Some (symbol_ref_name name), [])
open_shape (TypeNode-F.Function from to) = (None, ref_name from ∷ ref_name to ∷ [])

abbrev pub shape : TypeNode → Shape
shape t = open_shape (out-TypeNode t)

-- the type that a name stands for
abbrev pub shape_at : State TypeNode → Name → Option Shape
shape_at s name = option_map shape (reads s name)

-- what a type declares: its parts
abbrev pub declared_by : TypeNode → List Name
declared_by t = (shape t).1

-- a store's types, as a collection sees them
abbrev pub types_of : State TypeNode → List Entry
types_of s = entries_of declared_by s
