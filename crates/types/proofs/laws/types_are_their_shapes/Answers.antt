use Rattle.std.proofs.Common.{rules}
use Rattle.types.specs.declared.value.TypeNode.TheVariants.{Integer, Boolean, Unknown, Any, Function', Pair', outs-Integer, outs-Boolean, outs-Unknown, outs-Any, outs-Function', outs-Pair'}
use Rattle.ra_ap_intern.proofs.CallerLemmas.{names_same_both, same_names_both}
use Rattle.types.proofs.laws.types_are_their_shapes.Goals as goal

pub returns : goal.returns
returns c Integer Integer = search (rules, outs-Integer)
returns c Boolean Boolean = search (rules, outs-Boolean)
returns c (Unknown x) (Unknown y) = search (rules, outs-Unknown)
returns c (Any x) (Any y) = search (rules, outs-Any)
returns c (Function' p q r s) (Function' i j k l) =
    search (rules, outs-Function', names_same_both, same_names_both)
returns c (Pair' p q r s) (Pair' i j k l) =
    search (rules, outs-Pair', names_same_both, same_names_both)
returns c v w =
    search (rules, outs-Integer, outs-Boolean, outs-Unknown, outs-Any, outs-Function', outs-Pair')
