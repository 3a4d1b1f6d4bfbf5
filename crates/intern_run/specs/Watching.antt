-- What a watched device is seen as.
use Rattle.std.specs.Prelude.{Bool}
use Rattle.intern_run.specs.declared.watched.Watched.{Watched}

module _ {D : Type 0} where
  -- the device itself
  abbrev pub device_of : Watched D → D
  device_of w = w.device

  -- whether a call of it has failed
  abbrev pub has_failed : Watched D → Bool
  has_failed w = w.failed
