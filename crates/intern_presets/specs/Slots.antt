-- The slot of a text.
use Rattle.std.specs.Prelude.{ℕ, ◌+◌, ◌-◌, ◌*◌, ◌/◌, ◌%◌, List, length, get_or}
use Rattle.intern_presets.specs.declared.table.TheConstants.{BASE, SLOT_COUNT}

-- by the first byte, those at a quarter and at half of the length, and the last
unfoldable pub slot_of : List ℕ → ℕ
slot_of text =
    (((get_or text 0 0 * BASE + get_or text (length text / 4) 0) * BASE
    + get_or text (length text / 2) 0) * BASE + get_or text (length text - 1) 0) % SLOT_COUNT
