use Rattle.std.proofs.Common.{◌≡◌, map, slice_get, refl, ap, ◌∙◌}
use Rattle.std.specs.Fmt.{digits}
use Rattle.std.specs.List.{range_with_len}
use Rattle.intern_presets.specs.Presets.{generated_text}
use Rattle.intern_presets.specs.declared.texts.TheConstants.{GENERATED}
use Rattle.intern_presets.proofs.Computed.{at_number}
use Rattle.intern_presets.proofs.texts.generated_texts.Goals as goal

-- the table has the generated name of each number
computed : map (λ t. t.now) GENERATED ≡ map generated_text (range_with_len 0 256)
unfolding digits
computed = refl

pub returns : goal.returns
returns c n lt = ap (λ xs. slice_get xs n) computed ∙ at_number generated_text n lt
