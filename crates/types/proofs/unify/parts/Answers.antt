use Rattle.types.proofs.Pairs.{apart, no_parts}
use Rattle.types.proofs.unify.parts.Goals as goal

pub returns-in_err-kind-clause-none : goal.returns-in_err-kind-clause-none
returns-in_err-kind-clause-none c =
    rw c.from_residual.ensures
    (λ other first second v. apart c.args.types.now _ c.number-number.ensures.state c.types_are_their_shapes.ensures v
    _ _ other first second (λ a b x y parts. c.in_err-kind.ensures.none parts.0 a b parts.1))

pub returns-in_err-other-clause-none : goal.returns-in_err-other-clause-none
returns-in_err-other-clause-none c =
    rw c.from_residual-in_err-other.ensures
    (λ other first second v. apart c.args.types.now _ c.number-number.ensures.state c.types_are_their_shapes.ensures v
    _ _ other first second (λ a b x y parts. c.in_err-other.ensures.none parts.0 x y parts.2))

pub returns-then-kind-other-clause-none : goal.returns-then-kind-other-clause-none
returns-then-kind-other-clause-none c other first second v =
    apart c.args.types.now _ c.number-number.ensures.state c.types_are_their_shapes.ensures v _ _ other first second
    (no_parts c.args.types.now _ _ c.in_ok-kind.kind c.in_ok-other.other _ _ _ _ c.if-kind-other.true
    c.in_ok-kind.ensures.parts c.in_ok-other.ensures.parts)
