use Rattle.std.proofs.Common.{◌≡◌, ◌<◌, Some, sym, ◌∙◌, ap, subst, arith, rules, decimal}
use Rattle.std.proofs.lemmas.Fmt.{parse-decimal}
use Rattle.std.proofs.lemmas.Option.{none-some}
use Rattle.intern_presets.proofs.places.small_number.Goals as goal

pub returns-then-eq : goal.returns-then-eq
returns-then-eq c n =
    let fits : c.in-Ok.n < 256 = omega (arith, c.in-Ok.ensures.value.0) in
    let text : c.args.text.now ≡ decimal c.in-Ok.n = search rules in (
      λ e. let same : c.in-Ok.n ≡ n = cc e in (subst (λ k. k < 256) same fits, text ∙ ap decimal same),
      λ p. ap Some (cc (parse-decimal 8 n _ _ (omega (arith, p.0)) (omega (arith, p.0)) p.1 c.parse.ensures.value.0, c.in-Ok.is)),
    )

pub returns-else-eq : goal.returns-else-eq
returns-else-eq c n = (
  λ e. absurd (none-some n e),
  λ p.
      let same : c.in-Ok.n ≡ n = cc (parse-decimal 8 n _ _ (omega (arith, p.0)) (omega (arith, p.0)) p.1 c.parse.ensures.value.0, c.in-Ok.is) in
      let text : c.format.result.now ≡ c.args.text.now = c.format.ensures.text ∙ ap decimal same ∙ sym p.1 in
      search rules,
)

pub returns-in-Err : goal.returns-in-Err
returns-in-Err c n = (
  λ e. absurd (none-some n e),
  λ p. absurd (cc (parse-decimal 8 n _ _ (omega (arith, p.0)) (omega (arith, p.0)) p.1 c.parse.ensures.value.0)),
)
