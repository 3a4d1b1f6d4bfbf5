-- What a node declares.
use Rattle.std.specs.Prelude.{List, [], ◌∷◌}
use Rattle.ra_ap_intern.specs.Handle.{ref_name}
use Rattle.ra_ap_intern.specs.Name.{Name}
use Rattle.deep_chain.specs.declared.node.Node.{Node}
use Rattle.deep_chain.specs.declared.node.Node.TheOpen.{Node-F}

-- the name of its child, if it has one
abbrev pub child_names : Node-F Node → List Name
child_names Node-F.First = []
child_names (Node-F.Parent child) = ref_name child ∷ []
