-- The reply to a line, by the branches of the code.
use Rattle.std.proofs.Common.{◌≡◌, Decides, ℕ, List, ◌<◌, length, Bool, true, false, Result, Ok, Err, OnOk, IsErr, [], ◌∷◌, ◌++◌, refl, sym, ap, ◌∙◌, arith, codes}
use Rattle.std.proofs.lemmas.Bool.{false≢true}
use Rattle.std.proofs.lemmas.Slice.Eq.{bytes_eq-Decides}
use Rattle.std.proofs.lemmas.Bool.Decides.{nat_tests}
use Rattle.std.specs.List.{before_first, after_first, position_or_len}
use Rattle.std.specs.Str.{bytes_eq}
use Rattle.intern_run.specs.Answers.{SessionState, Reply as SessionReply, reply, word_reply, one_word, bad_command}
use Rattle.intern_run.specs.Lines.{is_space}
use Rattle.intern_run.specs.Told.{Replies, told_text, no_memory}
use Rattle.intern_run.specs.declared.answer.Answer.{Answer}
use Rattle.intern_run.specs.declared.answer.CommandError.{CommandError}

-- a line without a space
pub reply-one : (s : SessionState) (line : List ℕ) → position_or_len is_space line ≡ length line → reply s line ≡ one_word s line
unfolding reply
reply-one s line e = Prim.grind (arith, nat_tests, e)

-- a line with a space is a word and what follows
pub reply-word : (s : SessionState) (line word rest : List ℕ) → position_or_len is_space line < length line → word ≡ before_first is_space line → rest ≡ after_first is_space line
    → reply s line ≡ word_reply s word rest
unfolding reply
reply-word s line word rest spaced is_word is_rest =
    let has : reply s line ≡ word_reply s (before_first is_space line) (after_first is_space line) = Prim.grind (arith, nat_tests, spaced) in
    has ∙ ap (λ w. word_reply s w (after_first is_space line)) (sym is_word) ∙ ap (word_reply s word) (sym is_rest)

no : (b : Bool) (P : Type 0) → Decides b P → (P → ⊥) → b ≡ false
no true P d n = absurd (n (d.0 refl))
no false P d n = refl

differs : (xs ys : List ℕ) → (xs ≡ ys → ⊥) → bytes_eq xs ys ≡ false
differs xs ys n = no _ _ (bytes_eq-Decides xs ys) n

-- a word that is no command's
pub reply-none : (s : SessionState) (word rest : List ℕ) → (word ≡ codes "new" → ⊥) → (word ≡ codes "clone" → ⊥) → (word ≡ codes "read" → ⊥)
    → (word ≡ codes "same" → ⊥) → (word ≡ codes "release" → ⊥) → (word ≡ codes "sym" → ⊥) → word_reply s word rest ≡ bad_command s
reply-none s word rest a b c d e f =
    rw (differs word _ a, differs word _ b, differs word _ c, differs word _ d, differs word _ e, differs word _ f) refl

-- the session is that of the reply, and its answer was written
abbrev pub Replied : SessionState → List ℕ → List ℕ → SessionReply → Type 0
Replied new before after r = (new ≡ r.0) × (after ≡ before ++ (r.1 ++ (10 ∷ [])))

-- what a command came to was told
pub replied-told : {X E : Type 0} (o : Result X E) (told : Result Answer CommandError) (new : SessionState) (before after : List ℕ) (r : SessionReply)
    → Replies new told r → OnOk o (after ≡ before ++ (told_text told ++ (10 ∷ []))) → (told ≡ no_memory → IsErr o) → OnOk o (Replied new before after r)
replied-told (Ok x) told new before after r replies written memory =
    let e : (new, told_text told) ≡ r = replies (λ none. absurd (false≢true (memory none))) in
    (ap (λ r. r.0) e, written ∙ ap (λ r. before ++ (r.1 ++ (10 ∷ []))) e)
replied-told (Err x) told new before after r replies written memory = tt
