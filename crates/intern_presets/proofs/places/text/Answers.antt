use Rattle.std.proofs.Common.{◌∙◌, sym, arith, slice_get, ap, ◌-◌}
use Rattle.intern_presets.proofs.Standing.{at_low, at_middle, at_high}
use Rattle.intern_presets.proofs.places.text.Goals as goal

pub returns-then-place-lt-FIRST_GENERATED : goal.returns-then-place-lt-FIRST_GENERATED
returns-then-place-lt-FIRST_GENERATED c = c.text_at.ensures ∙ c.integer_texts.ensures c.args.place c.if-place-lt-FIRST_GENERATED.true ∙ sym (at_low c.args.place c.if-place-lt-FIRST_GENERATED.true)

pub returns-then-place-lt-FIRST_CONSTANT : goal.returns-then-place-lt-FIRST_CONSTANT
returns-then-place-lt-FIRST_CONSTANT c =
    c.text_at-then-place-lt-FIRST_CONSTANT.ensures ∙ c.generated_texts.ensures _ (omega (arith, c.if-place-lt-FIRST_GENERATED.false, c.if-place-lt-FIRST_CONSTANT.true)) ∙ sym (at_middle c.args.place c.if-place-lt-FIRST_GENERATED.false c.if-place-lt-FIRST_CONSTANT.true)

pub returns-else-place-lt-FIRST_CONSTANT : goal.returns-else-place-lt-FIRST_CONSTANT
returns-else-place-lt-FIRST_CONSTANT c =
    c.text_at-else-place-lt-FIRST_CONSTANT.ensures ∙ ap (λ xs. slice_get xs (c.args.place - 512)) c.table_texts.ensures ∙ sym (at_high c.args.place c.if-place-lt-FIRST_CONSTANT.false)
