use Rattle.intern_index.proofs.Held.{place_where, entries_seen}
use Rattle.intern_index.proofs.index.Index.place.Goals as goal

pub returns : goal.returns
returns g c = place_where c.self.inside.slots _ (entries_seen _ _ _ _ c.self.view_is) c.self.invariant.apart _ _ c.find.ensures.found c.find.ensures.absent
