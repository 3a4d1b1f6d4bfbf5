-- What types are, and what a store of them reads.
use Rattle.std.specs.Prelude.{ℕ, Option, List, [], ◌∷◌}
use Rattle.std.specs.Option.{option_map}
use Rattle.ra_ap_intern.specs.Families.{entries_of}
use Rattle.ra_ap_intern.specs.Handle.{ref_name}
use Rattle.ra_ap_intern.specs.Name.{Name}
use Rattle.ra_ap_intern.specs.Reach.{Entry}
use Rattle.ra_ap_intern.specs.State.{State, reads}
use Rattle.types.specs.declared.value.TypeNode.{TypeNode, out-TypeNode}
use Rattle.types.specs.declared.value.TypeNode.TheOpen.{TypeNode-F}

-- what a type is, without its parts
pub data Kind : Type 0 where
  integer : Kind
  boolean : Kind
  unknown : ℕ → Kind
  any : ℕ → Kind
  function : Kind
  pair : Kind

-- a type over others: its kind, and the names of its parts
abbrev pub Shape : Type 0
Shape = Kind × List Name

abbrev pub open_shape : TypeNode-F TypeNode → Shape
open_shape TypeNode-F.Integer = (integer, [])
open_shape TypeNode-F.Boolean = (boolean, [])
open_shape (TypeNode-F.Unknown number) = (unknown number, [])
open_shape (TypeNode-F.Any number) = (any number, [])
open_shape (TypeNode-F.Function from to) = (function, ref_name from ∷ ref_name to ∷ [])
open_shape (TypeNode-F.Pair first second) = (pair, ref_name first ∷ ref_name second ∷ [])

abbrev pub shape : TypeNode → Shape
shape t = open_shape (out-TypeNode t)

-- a type's kind
abbrev pub kind_of : TypeNode → Kind
kind_of t = (shape t).0

-- the type that a name stands for
abbrev pub shape_at : State TypeNode → Name → Option Shape
shape_at s name = option_map shape (reads s name)

-- an unknown type
abbrev pub unknown_shape : ℕ → Shape
unknown_shape number = (unknown number, [])

-- what a type declares: the names of its parts
abbrev pub declared_by : TypeNode → List Name
declared_by t = (shape t).1

-- a store's types, as a collection sees them
abbrev pub types_of : State TypeNode → List Entry
types_of s = entries_of declared_by s
