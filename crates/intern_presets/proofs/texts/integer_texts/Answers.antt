use Rattle.std.proofs.Common.{◌≡◌, map, slice_get, decimal, refl, ap, ◌∙◌}
use Rattle.std.specs.Fmt.{digits}
use Rattle.std.specs.List.{range_with_len}
use Rattle.intern_presets.specs.declared.texts.TheConstants.{INTEGERS}
use Rattle.intern_presets.proofs.Computed.{at_number}
use Rattle.intern_presets.proofs.texts.integer_texts.Goals as goal

-- the table has the digits of each number
computed : map (λ t. t.now) INTEGERS ≡ map decimal (range_with_len 0 256)
unfolding digits
computed = refl

pub returns : goal.returns
returns c n lt = ap (λ xs. slice_get xs n) computed ∙ at_number decimal n lt
