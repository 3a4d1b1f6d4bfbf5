-- The names of entries.
use Rattle.std.specs.Prelude.{Bool, ◌&&◌, ◌==◌}
use Rattle.intern_store.specs.declared.names.EntryKey.{EntryKey}
use Rattle.intern_store.specs.declared.names.Name.{Name}

-- the name of the entry of a key
abbrev pub key_name : EntryKey → Name
key_name key = record { storage = key.storage; birth = key.spot.birth }

-- whether two names are one
abbrev pub same_name : Name → Name → Bool
same_name a b = (a.storage == b.storage) && (a.birth == b.birth)
