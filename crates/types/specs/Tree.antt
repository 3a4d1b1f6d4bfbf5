-- Types unfolded into trees: a kind over the trees of its parts.
use Rattle.std.specs.Prelude.{◌≡◌, ◌⊎◌, ⊤, ℕ}
use Rattle.ra_ap_intern.specs.Name.{Name}
use Rattle.ra_ap_intern.specs.State.{State}
use Rattle.ra_ap_intern.specs.Tree.{Tree as TreeOver, Trees, tree, no_more, one_more, UnfoldsTo as UnfoldsInto}
use Rattle.types.specs.Types.{Kind, unknown, any, declared_by, kind_of}
use Rattle.types.specs.declared.value.TypeNode.{TypeNode}

-- a type down to its leaves
abbrev pub Tree : Type 0
Tree = TreeOver Kind

-- the tree of an unknown type
abbrev pub unknowns : ℕ → Tree
unknowns number = tree (unknown number) no_more

-- a name stands for a type that unfolds into this tree
abbrev pub UnfoldsTo : State TypeNode → Name → Tree → Type 0
UnfoldsTo = UnfoldsInto declared_by kind_of

abbrev pub IsNumber : ℕ → Kind → Type 0
IsNumber k (unknown n) = n ≡ k
IsNumber k kind = ⊥

-- an unknown type is a part of a tree
abbrev mutual
  pub Occurs : ℕ → Tree → Type 0
  Occurs k (tree kind ts) = IsNumber k kind ⊎ OccursAmong k ts

  pub OccursAmong : ℕ → Trees Kind → Type 0
  OccursAmong k no_more = ⊥
  OccursAmong k (one_more t ts) = Occurs k t ⊎ OccursAmong k ts

-- neither an unknown type nor any type
abbrev pub IsNoVariable : Kind → Type 0
IsNoVariable (unknown n) = ⊥
IsNoVariable (any n) = ⊥
IsNoVariable kind = ⊤

-- no part of a tree is a variable
abbrev mutual
  pub IsClosed : Tree → Type 0
  IsClosed (tree kind ts) = IsNoVariable kind × AreClosed ts

  pub AreClosed : Trees Kind → Type 0
  AreClosed no_more = ⊤
  AreClosed (one_more t ts) = IsClosed t × AreClosed ts

-- a name stands for a type without variables
abbrev pub StandsClosed : State TypeNode → Name → Type 0
StandsClosed s n = (t : Tree) × UnfoldsTo s n t × IsClosed t
