-- What paths are, and what a store of them spells.
use Rattle.std.specs.Prelude.{List, Option}
use Rattle.ra_ap_intern.specs.Families.{entries_of}
use Rattle.ra_ap_intern.specs.Handle.{name_if}
use Rattle.ra_ap_intern.specs.Name.{Name}
use Rattle.ra_ap_intern.specs.Order.{line}
use Rattle.ra_ap_intern.specs.Reach.{Entry}
use Rattle.ra_ap_intern.specs.State.{State}
use Rattle.ra_ap_intern.specs.Symbols.{Named, symbol_ref_name}
use Rattle.ra_ap_intern.specs.Visitors.{of_name}
use Rattle.use_paths.specs.declared.Path.{Path, out-Path}
use Rattle.use_paths.specs.declared.Path.TheOpen.{Path-F}

abbrev pub open_parent : Path-F Path → Option Name
open_parent (Path-F.Within parent name) = name_if parent

abbrev pub open_last : Path-F Path → Named
open_last (Path-F.Within parent name) = symbol_ref_name name

-- the parent of a path, if it has one, and its last name
abbrev pub parent_of : Path → Option Name
parent_of path = open_parent (out-Path path)

abbrev pub last_of : Path → Named
last_of path = open_last (out-Path path)

-- what a path declares: its parent
abbrev pub declared_by : Path → List Name
declared_by path = of_name (parent_of path)

-- a store's paths, as a collection sees them
abbrev pub paths_of : State Path → List Entry
paths_of s = entries_of declared_by s

-- the names of a path, the last first: none, where it or one above it can't be read
abbrev pub spelled : State Path → Name → Option (List Named)
spelled s n = line parent_of last_of s n
