-- What a scope names.
use Rattle.std.specs.Prelude.{ℕ, Bool, ◌&&◌, List}
use Rattle.std.specs.Str.{bytes_eq}
use Rattle.use_lookups.specs.declared.Qualified.{Qualified}

-- whether this is the scope, and this the name there
abbrev pub is_named : List ℕ → List ℕ → Qualified → Bool
is_named scope name q = bytes_eq scope q.scope && bytes_eq name q.name
