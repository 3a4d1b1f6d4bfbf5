use Rattle.std.proofs.Common.{◌∙◌}
use Rattle.intern_index.proofs.Held.{len-seen, entries_seen}
use Rattle.intern_index.proofs.index.Index.len.Goals as goal

pub returns : goal.returns
returns g c = c.len.ensures ∙ len-seen c.self.inside.slots _ (entries_seen _ _ _ _ c.self.view_is) c.self.invariant.apart
