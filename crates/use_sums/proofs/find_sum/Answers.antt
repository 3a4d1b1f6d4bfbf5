use Rattle.std.proofs.Common.{Some, sym, ap, ◌∙◌}
use Rattle.ra_ap_intern.proofs.CallerLemmas.{found_view, view_found}
use Rattle.use_nodes.specs.Parts.{parts_in, open_parts}
use Rattle.use_nodes.specs.declared.Expr.TheVariants.{Add, outs-Add}
use Rattle.use_sums.proofs.find_sum.Goals as goal

pub returns-clause-parts : goal.returns-clause-parts
returns-clause-parts c n =
    let sum = Add c.args.left c.args.right in
    let exprs = c.args.exprs.now in
    let alike = c.expressions_are_their_parts.ensures in
    let seen = ap (λ o. Some (open_parts o)) (outs-Add _ _) in (
      λ found. found_view _ parts_in alike exprs sum n (sym c.get.ensures ∙ found) ∙ seen,
      λ at. c.get.ensures ∙ view_found _ parts_in alike exprs c.number-number.ensures.state sum n (at ∙ sym seen),
    )
