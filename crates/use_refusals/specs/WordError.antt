-- Why a word has no handle.
use Rattle.std.specs.Prelude.{◌≡◌, ◌≢◌, ℕ, List, []}
use Rattle.std.specs.Str.{bytes_eq}
use Rattle.ra_ap_intern.specs.Outcome.{IsWhy}
use Rattle.ra_ap_intern.specs.State.{State, is_new, due_interning, full}
use Rattle.use_refusals.specs.declared.WordError.{WordError}
use Rattle.use_refusals.specs.declared.WordError.TheVariants.{Empty, Refused}

-- the error that a storage owes for this word
abbrev pub IsFor : WordError → State (List ℕ) → List ℕ → Type 0
IsFor Empty s word = word ≡ []
IsFor (Refused why) s word =
    (word ≢ []) × IsWhy (due_interning bytes_eq s word (full s.top)) (is_new bytes_eq s word) why
