use Rattle.std.proofs.Common.{sym, ◌∙◌}
use Rattle.intern_presets.proofs.Standing.{alone_in_table}
use Rattle.intern_presets.proofs.Finding.{stands_at}
use Rattle.intern_presets.proofs.places.index_of.Goals as goal

pub returns-then-stands_at : goal.returns-then-stands_at
returns-then-stands_at c i = alone_in_table _ i _ (stands_at _ _ (sym c.stands_at.ensures ∙ c.if-stands_at.true))
