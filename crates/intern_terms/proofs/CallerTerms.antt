-- What callers' proofs cite of terms and their trees.

-- a name has one tree, a tree one name, and a list of trees one list of names
pub use Rattle.intern_terms.proofs.Trees.{one_tree, one_name, one_list}
-- a tree stays where its reads do, and a list of trees where each tree does
pub use Rattle.intern_terms.proofs.Trees.{tree_on, forest_on}
-- the names of a list of trees, one by one, and of one tree or two
pub use Rattle.intern_terms.proofs.Trees.{forest_first, forest_none, forest_one, forest_two}
-- a list of references has as many trees, and two lists in one have the trees of both
pub use Rattle.intern_terms.proofs.Trees.{forest_length, forest_append}
pub use Rattle.intern_terms.specs.Tree.{joined}
-- what a name reads is what its tree is made of, and where it reads nothing it has none
pub use Rattle.intern_terms.proofs.Trees.{tree_node, tree_head, tree_arguments, unread}
