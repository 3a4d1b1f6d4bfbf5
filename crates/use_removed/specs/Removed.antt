-- Names, once nodes are removed.
use Rattle.std.specs.Prelude.{ℕ, Bool, List, [], ◌∷◌, if◌then◌else◌}
use Rattle.std.specs.List.{flat_map}
use Rattle.ra_ap_intern.specs.Families.{entries_of}
use Rattle.ra_ap_intern.specs.Name.{Name}
use Rattle.ra_ap_intern.specs.Reach.{Entry}
use Rattle.ra_ap_intern.specs.State.{State}
use Rattle.ra_ap_intern.specs.Symbols.{given_up, symbol_ref_name}
use Rattle.ra_ap_intern.specs.Visitors.{own_name}
use Rattle.use_removed.specs.declared.Node.{Node, out-Node}

-- what a node declares: the nodes behind it
abbrev pub declared_by : Node → List Name
declared_by n = flat_map own_name (out-Node n).behind.items

-- the nodes, as a collection sees them
abbrev pub nodes_of : State Node → List Entry
nodes_of s = entries_of declared_by s

-- names, once those of the nodes are given up that aren't kept, in this order
abbrev pub without_removed : (Name → Bool) → List (Name × Node) → State (List ℕ) → State (List ℕ)
without_removed kept [] names = names
without_removed kept (node ∷ nodes) names = without_removed kept nodes
    (if kept node.0 then names else given_up names (symbol_ref_name (out-Node node.1).name))
