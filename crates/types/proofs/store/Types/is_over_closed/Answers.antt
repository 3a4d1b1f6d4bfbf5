use Rattle.std.proofs.Common.{inl, inr, true, false, Some, ap, ◌∙◌, rules}
use Rattle.ra_ap_intern.specs.Handle.{ref_name}
use Rattle.types.specs.Tree.{StandsClosed}
use Rattle.types.specs.Types.{integer, boolean, open_shape, shape}
use Rattle.types.specs.declared.value.TypeNode.TheVariants.{outs-Integer, outs-Boolean, outs-Function', outs-Pair'}
use Rattle.types.proofs.Closed.{leaf_closed, two_closed}
use Rattle.types.proofs.store.Types.is_over_closed.Goals as goal

pub returns-in-Integer : goal.returns-in-Integer
returns-in-Integer c _ n at = elim c.in-Integer.is [
  | inl is ↦ leaf_closed _ n integer (at ∙ ap Some (ap shape is ∙ ap open_shape outs-Integer)) tt
  | inr is ↦ leaf_closed _ n boolean (at ∙ ap Some (ap shape is ∙ ap open_shape outs-Boolean)) tt
]

pub returns-then-is_closed : goal.returns-then-is_closed
returns-then-is_closed c closed n at =
    let s = c.args.self.now in
    let first : StandsClosed s (ref_name c.in-Function.first) = search rules in
    let second : StandsClosed s (ref_name c.in-Function.second) = c.is_closed-then-is_closed.ensures closed in
    elim c.in-Function.is [
      | inl is ↦ two_closed s n _ _ true (at ∙ ap Some (ap shape is ∙ ap open_shape (outs-Function' _ _ _ _))) first second
      | inr is ↦ two_closed s n _ _ false (at ∙ ap Some (ap shape is ∙ ap open_shape (outs-Pair' _ _ _ _))) first second
    ]
