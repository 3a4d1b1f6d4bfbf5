-- What a command comes to, as it is written.
use Rattle.std.specs.Prelude.{◌≡◌, ◌≢◌, ℕ, List, [], ◌∷◌, ◌++◌, codes, Result, Ok, Err, String, string_bytes}
use Rattle.ra_ap_intern.specs.Refusal.TheVariants.{OutOfMemory}
use Rattle.intern_run.specs.declared.answer.Answer.{Answer}
use Rattle.intern_run.specs.declared.answer.Answer.TheVariants.{Made, Slot, Text, Same, Freed, Len, Symbol}
use Rattle.intern_run.specs.declared.answer.CommandError.{CommandError}
use Rattle.intern_run.specs.declared.answer.CommandError.TheVariants.{BadCommand, NoSlot, Refused}
use Rattle.intern_run.specs.Answers.{SessionState, Reply, bad_text, no_slot_text, refusal_text}
use Rattle.intern_run.specs.Answers.{made_text, slot_text, same_text, freed_text, len_text, symbol_text}

abbrev pub answer_text : Answer → List ℕ
answer_text (Made slot birth is_new) = made_text slot birth is_new
answer_text (Slot slot) = slot_text slot
answer_text (Text text) = codes "text " ++ text.now
answer_text (Same same) = same_text same
answer_text (Freed text) = freed_text text
answer_text (Len len) = len_text len
answer_text (Symbol count len) = symbol_text count len

abbrev pub error_text : CommandError → List ℕ
error_text BadCommand = bad_text
error_text NoSlot = no_slot_text
error_text (Refused why) = refusal_text why

abbrev pub told_text : Result Answer CommandError → List ℕ
told_text (Ok answer) = answer_text answer
told_text (Err error) = error_text error

-- want of memory, which has no answer
abbrev pub no_memory : Result Answer CommandError
no_memory = Err (Refused OutOfMemory)

-- but for want of memory, the session is that of the reply, and what is told is its answer
abbrev pub Replies : SessionState → Result Answer CommandError → Reply → Type 0
Replies new told r = told ≢ no_memory → (new, told_text told) ≡ r

module _ {Z : Type 0} where
  -- one more answer was written, with its line feed
  abbrev pub Writes : String Z → String Z → List ℕ → Type 0
  Writes before after answer = string_bytes after ≡ string_bytes before ++ (answer ++ (10 ∷ []))

  -- the session is that of the reply, and its answer was written
  abbrev pub Answers : SessionState → String Z → String Z → Reply → Type 0
  Answers new before after r = (new ≡ r.0) × Writes before after r.1
