-- The presets, and the places at which they stand.
use Rattle.std.specs.Prelude.{ℕ, ◌+◌, ◌-◌, List, ◌++◌, codes, decimal, Option, Some, slice_get, nat_lt, if◌then◌else◌}
use Rattle.std.specs.Ordering.{nat_cmp}
use Rattle.std.specs.Cmp.Lexicographic.{slice_cmp}
use Rattle.std.specs.List.{find, range_with_len}
use Rattle.std.specs.List.Sorted.{IsStrictlySortedBy}
use Rattle.std.specs.Option.{option_eq}
use Rattle.std.specs.Str.{bytes_eq}
use Rattle.intern_presets.specs.Table.{table, table_length}

-- each text stands before those after it, in the order of bytes
abbrev pub Rises : List (List ℕ) → Type 0
Rises = IsStrictlySortedBy (slice_cmp nat_cmp)

-- the generated name of a number
abbrev pub generated_text : ℕ → List ℕ
generated_text n = codes "<ra@gennew>" ++ decimal n

-- the text at a place: 256 integers, 256 generated names, and then the table
unfoldable pub preset_text : ℕ → Option (List ℕ)
preset_text place =
    if nat_lt place 256 then Some (decimal place)
    else if nat_lt place 512 then Some (generated_text (place - 256))
    else slice_get table (place - 512)

-- how many places there are
abbrev pub number_of_presets : ℕ
number_of_presets = 512 + table_length

-- the place of a text, where it has one
unfoldable pub place_of : List ℕ → Option ℕ
place_of text =
    find (λ place. option_eq bytes_eq (preset_text place) (Some text))
    (range_with_len 0 number_of_presets)
