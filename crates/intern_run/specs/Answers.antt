-- The answers to the lines of a text.
use Rattle.std.specs.Prelude.{ℕ, ◌^◌, ◌-◌, List, [], ◌∷◌, ◌++◌, length, Bool, false, if◌then◌else◌}
use Rattle.std.specs.Prelude.{Option, None, Some, codes, slice_set, refl}
use Rattle.std.specs.Coded.{Coded, code_by, coded×, coded_list, coded_option, coded_ℕ}
use Rattle.std.specs.FinMap as map
use Rattle.std.specs.List.{before_first, after_first}
use Rattle.std.specs.Str.{bytes_eq}
use Rattle.std.specs.Fmt.{decimal}
use Rattle.intern_presets.specs.Numbers.{number_value}
use Rattle.ra_ap_intern.specs.State.{State, state_code, new_state, name_in, reads, counted_up, is_new, interned}
use Rattle.ra_ap_intern.specs.State.{due, due_interning, full, zero_count, freed, released}
use Rattle.ra_ap_intern.specs.Symbols.{count_of, symbol_in, due_symbol}
use Rattle.ra_ap_intern.specs.Name.{Name}
use Rattle.ra_ap_intern.specs.Named.{same_name}
use Rattle.ra_ap_intern.specs.Refusal.{Refusal}
use Rattle.ra_ap_intern.specs.Refusal.TheVariants.{CountFull, NumbersUsedUp}
use Rattle.intern_run.specs.Lines.{is_space, has_space, lines}
use Rattle.intern_run.specs.Slots.{name_code, handle_at}

-- the texts that are kept, those that have symbols, and the slots, each with a handle's name or
-- empty
pub record SessionState : Type 0 where
  pub texts : State (List ℕ)
  pub symbols : State (List ℕ)
  pub slots : List (Option Name)

abbrev pub texts_code : Coded (State (List ℕ))
texts_code = state_code (coded_list coded_ℕ)

abbrev pub session_code : Coded SessionState
session_code =
    code_by (State (List ℕ) × (State (List ℕ) × List (Option Name)))
    (coded× texts_code (coded× texts_code (coded_list (coded_option name_code))))
    (λ s. (s.texts, (s.symbols, s.slots)))
    (λ p. record { texts = p.0; symbols = p.1.0; slots = p.1.1 }) (λ _. refl)

-- a storage with the largest limits
abbrev pub new_texts : ℕ → State (List ℕ)
new_texts number = new_state number (2 ^ 64 - 1) (2 ^ 64 - 1)

-- no text is kept, there is no symbol and no slot
abbrev pub new_session : SessionState
new_session = record { texts = new_texts 1; symbols = new_texts 2; slots = [] }

-- the session afterwards, and the answer without its line feed
abbrev pub Reply : Type 0
Reply = SessionState × List ℕ

abbrev pub bad_text : List ℕ
bad_text = codes "bad command"

abbrev pub bad_command : SessionState → Reply
bad_command s = (s, bad_text)

abbrev pub no_slot_text : List ℕ
no_slot_text = codes "no slot"

abbrev pub no_slot : SessionState → Reply
no_slot s = (s, no_slot_text)

-- the answer to a refusal, which leaves the session as it was
abbrev pub refusal_text : Refusal → List ℕ
refusal_text CountFull = codes "refused 4"
refusal_text NumbersUsedUp = codes "refused 5"
refusal_text _ = no_slot_text

-- the refusal that is due, or else this reply
abbrev pub unless_due : SessionState → Option Refusal → Reply → Reply
unless_due s (Some why) reply = (s, refusal_text why)
unless_due s None reply = reply

-- the reply of a command on a slot with a handle
abbrev pub at_handle : SessionState → Option Name → (Name → Reply) → Reply
at_handle s None reply = no_slot s
at_handle s (Some h) reply = reply h

abbrev pub at_slot : SessionState → Option ℕ → (ℕ → Name → Reply) → Reply
at_slot s None reply = bad_command s
at_slot s (Some n) reply = at_handle s (handle_at s.slots n) (reply n)

-- with a handle of this name in a new slot
abbrev pub with_slot : SessionState → State (List ℕ) → Name → SessionState
with_slot s texts h = record s { texts = texts; slots = s.slots ++ (Some h ∷ []) }

-- `new TEXT`
abbrev pub slot_text : ℕ → List ℕ
slot_text slot = codes "slot " ++ decimal slot

abbrev pub made_text : ℕ → ℕ → Bool → List ℕ
made_text slot birth is_new =
    slot_text slot ++ codes " birth " ++ decimal birth
    ++ (if is_new then codes " new" else codes " stored")

abbrev pub made : SessionState → List ℕ → Reply
made s text = let i = interned bytes_eq s.texts text in (
  with_slot s (counted_up i.state i.birth) (name_in s.texts i.birth),
  made_text (length s.slots) i.birth (is_new bytes_eq s.texts text),
)

abbrev pub new_reply : SessionState → List ℕ → Reply
new_reply s text =
    unless_due s (due_interning bytes_eq s.texts text (full s.texts.top)) (made s text)

-- `clone N`
abbrev pub clone_reply : SessionState → Name → Reply
clone_reply s h =
    unless_due s (due s.texts h (full s.texts.top))
    (with_slot s (counted_up s.texts h.birth) h, slot_text (length s.slots))

-- `read N`
abbrev pub read_text : Option (List ℕ) → List ℕ
read_text None = no_slot_text
read_text (Some text) = codes "text " ++ text

abbrev pub read_reply : SessionState → Name → Reply
read_reply s h = (s, read_text (reads s.texts h))

-- `same N M`
abbrev pub same_text : Bool → List ℕ
same_text same = if same then codes "yes" else codes "no"

abbrev pub same_reply : SessionState → Name → Name → Reply
same_reply s h k = (s, same_text (same_name h k))

-- the reply to `same` with these numbers
abbrev pub same_at : SessionState → Option ℕ → Option ℕ → Reply
same_at s None m = bad_command s
same_at s (Some n) None = bad_command s
same_at s (Some n) (Some m) =
    at_handle s (handle_at s.slots n) (λ h. at_handle s (handle_at s.slots m) (same_reply s h))

abbrev pub same_words : SessionState → List ℕ → Reply
same_words s rest =
    if has_space rest
    then same_at s (number_value (before_first is_space rest))
    (number_value (after_first is_space rest))
    else bad_command s

-- `release N`
abbrev pub freed_text : Option (List ℕ) → List ℕ
freed_text None = codes "kept"
freed_text (Some text) = codes "freed " ++ text

abbrev pub release_reply : SessionState → ℕ → Name → Reply
release_reply s n h =
    unless_due s (due s.texts h zero_count) (
      record s { texts = released false s.texts h.birth; slots = slice_set s.slots n None },
      freed_text (freed false s.texts h.birth),
    )

-- `len`
abbrev pub len_text : ℕ → List ℕ
len_text len = codes "len " ++ decimal len

abbrev pub len_reply : SessionState → Reply
len_reply s = (s, len_text (map.len s.texts.map))

-- `sym TEXT`: the symbol is dropped, and keeps its count
abbrev pub symbol_text : Option ℕ → ℕ → List ℕ
symbol_text None len = codes "preset len " ++ decimal len
symbol_text (Some count) len = codes "count " ++ decimal count ++ codes " len " ++ decimal len

abbrev pub symbol_reply : SessionState → List ℕ → Reply
symbol_reply s text = let i = symbol_in s.symbols text in
    unless_due s (due_symbol s.symbols text)
    (record s { symbols = i.table }, symbol_text (count_of i.table i.symbol) (map.len i.table.map))

-- the reply to a word and what follows its space
abbrev pub word_reply : SessionState → List ℕ → List ℕ → Reply
word_reply s word rest =
    if bytes_eq word (codes "new") then new_reply s rest
    else if bytes_eq word (codes "clone") then at_slot s (number_value rest) (λ n. clone_reply s)
    else if bytes_eq word (codes "read") then at_slot s (number_value rest) (λ n. read_reply s)
    else if bytes_eq word (codes "same") then same_words s rest
    else if bytes_eq word (codes "release") then at_slot s (number_value rest) (release_reply s)
    else if bytes_eq word (codes "sym") then symbol_reply s rest
    else bad_command s

-- the reply to a line without a space
abbrev pub one_word : SessionState → List ℕ → Reply
one_word s line = if bytes_eq line (codes "len") then len_reply s else bad_command s

-- the reply to a line
unfoldable pub reply : SessionState → List ℕ → Reply
reply s line =
    if has_space line then word_reply s (before_first is_space line) (after_first is_space line)
    else one_word s line

-- the answers to the lines in order, each with its line feed
abbrev pub answers_from : SessionState → List (List ℕ) → List ℕ
answers_from s [] = []
answers_from s (line ∷ more) =
    ((reply s line).1 ++ (10 ∷ [])) ++ answers_from (reply s line).0 more

unfoldable pub answers : List ℕ → List ℕ
answers t = answers_from new_session (lines t)
