-- The answers over one more line, and at the end of the text.
use Rattle.std.proofs.Common.{◌≡◌, ℕ, ◌<◌, List, [], ◌∷◌, ◌++◌, length, arith, ap, sym, ◌∙◌, append_assoc}
use Rattle.std.proofs.lemmas.Grind.{common_steps}
use Rattle.std.specs.List.{before_first, after_first, position_or_len}
use Rattle.intern_run.specs.Answers.{SessionState, reply, answers_from}
use Rattle.intern_run.specs.Lines.{lines, is_line_feed}
use Rattle.intern_run.proofs.Reply.{Replied}
use Rattle.intern_run.proofs.Lines.{lines_first, lines_last, lines_nil}

module _ (all out after : List ℕ) (s t : SessionState) (rest : List ℕ)
    (so_far : all ≡ out ++ answers_from s (lines rest)) where
  pub written_line : (line more : List ℕ) → line ≡ before_first is_line_feed rest → more ≡ after_first is_line_feed rest
      → position_or_len is_line_feed rest < length rest → Replied t out after (reply s line)
      → all ≡ after ++ answers_from t (lines more)
  written_line line more e f below r =
      let whole : lines rest ≡ line ∷ lines more = lines_first rest below ∙ sym (ap (λ x. x ∷ lines (after_first is_line_feed rest)) e)
      ∙ sym (ap (λ y. line ∷ lines y) f) in
      so_far ∙ ap (λ ls. out ++ answers_from s ls) whole
      ∙ sym (append_assoc (out) ((reply s line).1 ++ (10 ∷ [])) (answers_from (reply s line).0 (lines more)))
      ∙ sym (ap (λ x. x ++ answers_from (reply s line).0 (lines more)) r.1)
      ∙ sym (ap (λ x. after ++ answers_from x (lines more)) r.0)

  pub written_last : position_or_len is_line_feed rest ≡ length rest → 0 < length rest → Replied t out after (reply s rest)
      → all ≡ after
  written_last none some r =
      so_far ∙ ap (λ ls. out ++ answers_from s ls) (lines_last rest none some) ∙ grind (arith, common_steps, r.1)

  pub written_all : length rest ≡ 0 → all ≡ out
  written_all e = grind (arith, common_steps, so_far, e, lines_nil)
