use Rattle.std.proofs.Common.{ap, is_some, ◌∙◌}
use Rattle.intern_index.specs.Seen.{kept_entry}
use Rattle.intern_index.proofs.Seen.{placed}
use Rattle.intern_table.proofs.Tabled.{seen_entries}
use Rattle.intern_table.proofs.table.TableEntries.place.Goals as goal

pub returns : goal.returns
returns g c = ap is_some c.place.ensures ∙ placed kept_entry _ _ (seen_entries c.self.view_is) c.args.birth
