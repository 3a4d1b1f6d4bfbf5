-- The lines and the words of a text.
use Rattle.std.specs.Prelude.{ℕ, List, [], ◌∷◌, length, Bool, ◌==◌, if◌then◌else◌, nat_lt}
use Rattle.std.specs.List.{slice_split, position_or_len}

-- the byte c
abbrev pub is_byte : ℕ → ℕ → Bool
is_byte c b = b == c

abbrev pub is_line_feed : ℕ → Bool
is_line_feed = is_byte 10

abbrev pub is_space : ℕ → Bool
is_space = is_byte 32

-- whether a text has a space
abbrev pub has_space : List ℕ → Bool
has_space t = nat_lt (position_or_len is_space t) (length t)

-- an empty last piece is no line
abbrev pub without_empty_last : List (List ℕ) → List (List ℕ)
without_empty_last [] = []
without_empty_last (x ∷ []) = if length x == 0 then [] else x ∷ []
without_empty_last (x ∷ y ∷ more) = x ∷ without_empty_last (y ∷ more)

-- the lines of a text: what stands between its line feeds
unfoldable pub lines : List ℕ → List (List ℕ)
lines t = without_empty_last (slice_split is_line_feed t)
