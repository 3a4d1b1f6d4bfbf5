-- The bytes of a text, in either form.
use Rattle.std.specs.Prelude.{ℕ, List, string_bytes}
use Rattle.intern_table.specs.declared.text.Form.{Form}
use Rattle.intern_table.specs.declared.text.Form.TheVariants.{Short, Long}

abbrev pub form_bytes : Form → List ℕ
form_bytes (Short text) = text.bytes
form_bytes (Long text) = string_bytes text
