use Rattle.std.proofs.Common.{sym, ap}
use Rattle.std.specs.Option.{option_map}
use Rattle.intern_terms.proofs.Trees.{tree_head, tree_arguments}
use Rattle.intern_terms.proofs.laws.a_tree_is_that_of_its_parts.Goals as goal

pub returns : goal.returns
returns c s name head trees v is read = (
  tree_head s name head trees is v.header (sym (ap (option_map (λ v. v.header)) read)),
  tree_arguments s name head trees is v.items (sym (ap (option_map (λ v. v.items)) read)),
)
