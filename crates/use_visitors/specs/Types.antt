-- What types declare.
use Rattle.std.specs.Prelude.{List, []}
use Rattle.ra_ap_intern.specs.Name.{Name}
use Rattle.ra_ap_intern.specs.Visitors.{own_name}
use Rattle.use_visitors.specs.declared.TypeNode.{TypeNode, out-TypeNode}
use Rattle.use_visitors.specs.declared.TypeNode.TheOpen.{TypeNode-F}

abbrev pub open_type : TypeNode-F TypeNode → List Name
open_type (TypeNode-F.Named name) = []
open_type (TypeNode-F.List item) = own_name item

abbrev pub of_type : TypeNode → List Name
of_type t = open_type (out-TypeNode t)
