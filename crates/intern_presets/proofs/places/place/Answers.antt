use Rattle.std.proofs.Common.{◌≡◌, ◌<◌, ◌+◌, ◌++◌, codes, decimal, refl, sym, ◌∙◌, ap, subst, arith, inl, inr}
use Rattle.std.proofs.lemmas.Option.{none-some, slice_get_within}
use Rattle.intern_presets.specs.Table.{table, table_length}
use Rattle.intern_presets.proofs.Computed.{length_of_table}
use Rattle.intern_presets.proofs.Standing.{alone, is_preset, generated_injective, nowhere, middle_is_not_high}
use Rattle.intern_presets.proofs.Finding.{determined}
use Rattle.intern_presets.proofs.places.place.Goals as goal

pub returns-in-Some : goal.returns-in-Some
returns-in-Some c =
    let is = (c.in-Some.ensures c.in-Some.n).0 refl in
    determined c.args.text.now _ (λ p. alone c.in-Some.n p c.args.text.now (is_preset c.in-Some.n c.args.text.now (inl is)))

pub returns-in-Some-strip_prefix : goal.returns-in-Some-strip_prefix
returns-in-Some-strip_prefix c =
    let is = (c.in_ok-n.ensures c.in_ok-n.n).0 refl in
    let cut = c.in-Some-strip_prefix.ensures.cases in
    let text : c.args.text.now ≡ codes "<ra@gennew>" ++ decimal c.in_ok-n.n = cut.1.1 ∙ ap (λ ds. codes "<ra@gennew>" ++ ds) (sym cut.2 ∙ is.1) in
    determined c.args.text.now _ (λ p. alone (c.in_ok-n.n + 256) p c.args.text.now (is_preset _ _ (inr (inl (c.in_ok-n.n, refl, is.0, text)))))

pub returns-in_err-n : goal.returns-in_err-n
returns-in_err-n c =
    let t = c.args.text.now in
    let cut = c.in-Some-strip_prefix.ensures.cases in
    let text : t ≡ codes "<ra@gennew>" ++ c.in-Some-strip_prefix.digits.now = cut.1.1 ∙ ap (λ ds. codes "<ra@gennew>" ++ ds) (sym cut.2) in
    c.from_residual.ensures ∙ determined t _ (λ p. (
      λ e. absurd (none-some p e),
      λ e. absurd (nowhere p t
          (λ n lt is. absurd (cc ((c.small_number.ensures n).1 (lt, is), c.in_default.is)))
          (λ m lt is. absurd (none-some m ((c.in_err-n.ensures m).1 (lt, generated_injective m _ (sym text ∙ is)))))
          (λ i at. middle_is_not_high _ i t text at)
          e),
    ))

pub overflow_add-result-2 : goal.overflow_add-result-2
overflow_add-result-2 c =
    let is = (c.in_ok-index.ensures c.in_ok-index.index).0 refl in
    let within : c.in_ok-index.index < table_length = subst (λ n. c.in_ok-index.index < n) length_of_table (slice_get_within table c.in_ok-index.index c.args.text.now is) in
    omega (arith, within)

pub returns : goal.returns
returns c =
    let is = (c.in_ok-index.ensures c.in_ok-index.index).0 refl in
    determined c.args.text.now _ (λ p. alone (c.in_ok-index.index + 512) p c.args.text.now (is_preset _ _ (inr (inr (c.in_ok-index.index, refl, is)))))

pub returns-in_err-index : goal.returns-in_err-index
returns-in_err-index c =
    let t = c.args.text.now in
    c.from_residual-in_err-index.ensures ∙ determined t _ (λ p. (
      λ e. absurd (none-some p e),
      λ e. absurd (nowhere p t
          (λ n lt is. absurd (cc ((c.small_number.ensures n).1 (lt, is), c.in_default.is)))
          (λ m lt is. c.in_default-strip_prefix.ensures.cases (decimal m) is)
          (λ i at. none-some i ((c.in_err-index.ensures i).1 at))
          e),
    ))
