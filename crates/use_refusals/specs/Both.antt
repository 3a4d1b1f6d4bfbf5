-- Why one of two interners refused a word, and what the first is left with.
use Rattle.std.specs.Prelude.{◌≡◌, ◌≢◌, ◌⊎◌, ℕ, List, None, Some, false}
use Rattle.std.specs.Str.{bytes_eq}
use Rattle.ra_ap_intern.specs.Interning.{AsBefore}
use Rattle.ra_ap_intern.specs.Outcome.{IsWhy}
use Rattle.ra_ap_intern.specs.Refusal.{Refusal}
use Rattle.ra_ap_intern.specs.State.{State, counts, is_new, interned_name, interned_counted, released, due_interning, full}
use Rattle.ra_ap_intern.specs.Symbols.{due_symbol, is_new_text}

-- the words refused it, and are as they were; or else the table, and the handle is released: then
-- each name reads and counts what it did, unless the word was stored with count zero
abbrev pub IsOfEither : Refusal → State (List ℕ) → State (List ℕ) → State (List ℕ) → List ℕ
    → Type 0
IsOfEither why old new table word =
    let due = due_interning bytes_eq old word (full old.top) in
    (IsWhy due (is_new bytes_eq old word) why × (new ≡ old))
    ⊎ ((due ≡ None) × IsWhy (due_symbol table word) (is_new_text table word) why
    × (new ≡ released false (interned_counted bytes_eq old word)
    (interned_name bytes_eq old word).birth)
    × (counts old (interned_name bytes_eq old word) ≢ Some 0 → AsBefore old new))
