use Rattle.std.proofs.Common.{rules}
use Rattle.use_nodes.specs.declared.Expr.TheVariants.{Number, Add', outs-Number, outs-Add'}
use Rattle.ra_ap_intern.proofs.CallerLemmas.{names_same_both, same_names_both}
use Rattle.use_nodes.proofs.expressions_are_their_parts.Goals as goal

pub returns : goal.returns
returns c (Number a) (Number b) = search (rules, outs-Number)
returns c (Number a) (Add' i j k l) = search (rules, outs-Number, outs-Add')
returns c (Add' p q r s) (Number b) = search (rules, outs-Number, outs-Add')
returns c (Add' p q r s) (Add' i j k l) =
    search (rules, outs-Add', names_same_both, same_names_both)
