use Rattle.std.proofs.Common.{ap, sym, ◌∙◌, arith}
use Rattle.std.specs.FinMap.{len}
use Rattle.intern_index.specs.Seen.{kept_entry}
use Rattle.intern_store.proofs.Maps.{len-map_values}
use Rattle.intern_table.proofs.Tabled.{seen_entries}
use Rattle.intern_table.proofs.table.TableEntries.memory.Goals as goal

pub returns : goal.returns
returns g c =
    let many = sym (len-map_values kept_entry _) ∙ ap len (seen_entries c.self.view_is) in
    omega (arith, many, c.memory.ensures)
