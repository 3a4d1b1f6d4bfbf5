-- The lines of a text, from its first line feed on.
use Rattle.std.proofs.Common.{◌≡◌, ℕ, ◌<◌, List, [], ◌∷◌, length, Bool, true, false, not, arith, refl, ap, sym, ◌∙◌}
use Rattle.std.specs.List.{slice_split, before_first, after_first, position_or_len}
use Rattle.std.proofs.lemmas.Bool.Decides.{nat_tests}
use Rattle.std.proofs.lemmas.List.Splits.{slice_split_first, slice_split_none, length-slice_split}
use Rattle.std.proofs.lemmas.List.Elements.{All-from_get_or}
use Rattle.std.proofs.lemmas.List.Sums.{prefix_len_passes}
use Rattle.intern_run.specs.Lines.{lines, is_line_feed, without_empty_last}

not_last : (x : List ℕ) (parts : List (List ℕ)) → 0 < length parts → without_empty_last (x ∷ parts) ≡ x ∷ without_empty_last parts
not_last x [] h = absurd (omega arith)
not_last x (y ∷ more) h = refl

last : (t : List ℕ) → 0 < length t → without_empty_last (t ∷ []) ≡ t ∷ []
last t h = grind (arith, nat_tests, h)

fails : (b : Bool) → not b ≡ true → b ≡ false
fails true h = sym h
fails false h = refl

pub lines_first : (t : List ℕ) → position_or_len is_line_feed t < length t
    → lines t ≡ before_first is_line_feed t ∷ lines (after_first is_line_feed t)
unfolding lines
lines_first t h = ap without_empty_last (slice_split_first is_line_feed t 0 h)
    ∙ not_last (before_first is_line_feed t) (slice_split is_line_feed (after_first is_line_feed t))
    (omega (arith, length-slice_split is_line_feed (after_first is_line_feed t)))

pub lines_last : (t : List ℕ) → position_or_len is_line_feed t ≡ length t → 0 < length t → lines t ≡ t ∷ []
unfolding lines
lines_last t h some = ap without_empty_last (slice_split_none is_line_feed t
    (All-from_get_or (λ x. is_line_feed x ≡ false) t 0
    (λ i below. fails _ (prefix_len_passes (λ x. not (is_line_feed x)) t i 0 (omega (arith, h, below))))))
    ∙ last t some

pub lines_nil : lines [] ≡ []
unfolding lines
lines_nil = refl
