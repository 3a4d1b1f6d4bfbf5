use Rattle.std.proofs.Common.{ap, sym, ◌∙◌}
use Rattle.std.proofs.lemmas.Option.{same_Some, none-some}
use Rattle.intern_buckets.proofs.probe.place_of.Goals as goal

pub returns-in_err-place-clause-none : goal.returns-in_err-place-clause-none
returns-in_err-place-clause-none g c = rw c.from_residual.ensures (λ p small is. absurd (none-some p (c.in_err-place.ensures.found p small is)))

pub returns-else-passes-clause-none : goal.returns-else-passes-clause-none
returns-else-passes-clause-none g c = λ p small is.
    let here = same_Some _ _ (c.in_ok-place.ensures.found p small is) in
    ap (g.Q.Test.passes c.args.test.now) (sym here) ∙ sym c.if-passes.ensures
