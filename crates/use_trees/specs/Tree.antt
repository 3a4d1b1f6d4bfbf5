-- Types unfolded into trees: the name of a type, or none over the trees of its two parts.
use Rattle.std.specs.Prelude.{Option}
use Rattle.ra_ap_intern.specs.Name.{Name}
use Rattle.ra_ap_intern.specs.State.{State}
use Rattle.ra_ap_intern.specs.Symbols.{Named}
use Rattle.ra_ap_intern.specs.Tree.{Tree, UnfoldsTo as UnfoldsInto}
use Rattle.use_types.specs.Types.{declared_by, shape}
use Rattle.use_types.specs.declared.TypeNode.{TypeNode}

abbrev pub TypeTree : Type 0
TypeTree = Tree (Option Named)

-- a name stands for a type that unfolds into this tree
abbrev pub UnfoldsTo : State TypeNode → Name → TypeTree → Type 0
UnfoldsTo = UnfoldsInto declared_by (λ t. (shape t).0)
