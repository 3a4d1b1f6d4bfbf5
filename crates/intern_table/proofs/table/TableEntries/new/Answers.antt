use Rattle.intern_index.specs.Seen.{kept_entry}
use Rattle.intern_index.proofs.Seen.{empty_led}
use Rattle.intern_store.proofs.Maps.{map_values-empty}
use Rattle.intern_table.proofs.table.TableEntries.new.Goals as goal

pub invariant_of-result : goal.invariant_of-result
invariant_of-result g c = empty_led _ _ c.new.ensures

pub returns-clause-entries : goal.returns-clause-entries
returns-clause-entries g c = map_values-empty kept_entry _ c.new.ensures
