use Rattle.std.proofs.Common.{rules}
use Rattle.use_types.specs.declared.TypeNode.TheVariants.{Named, Function', outs-Named, outs-Function'}
use Rattle.ra_ap_intern.proofs.CallerLemmas.{names_same_both, same_names_both}
use Rattle.use_types.proofs.types_are_their_shapes.Goals as goal

pub returns : goal.returns
returns c (Named a) (Named b) =
    search (rules, outs-Named, c.symbol_references_are_what_they_name.ensures.equal a b)
returns c (Named a) (Function' i j k l) = search (rules, outs-Named, outs-Function')
returns c (Function' p q r s) (Named b) = search (rules, outs-Named, outs-Function')
returns c (Function' p q r s) (Function' i j k l) =
    search (rules, outs-Function', names_same_both, same_names_both)
