-- What inference leaves of an environment.
use Rattle.std.specs.Prelude.{◌≡◌}
use Rattle.ra_ap_intern.specs.Interning.{ReadsOn}
use Rattle.types.specs.declared.environment.Environment.{Environment}

-- what is declared is as it was, and so is each type; types may have been made
abbrev pub Grows : Environment → Environment → Type 0
Grows old new = (new.declared ≡ old.declared) × ReadsOn old.types new.types
