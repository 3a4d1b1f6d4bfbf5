use Rattle.std.proofs.Common.{sym, subst}
use Rattle.std.specs.Prelude.{IsPermutation, map as list_map}
use Rattle.intern_index.specs.Listed.{listed_at, listed}
use Rattle.intern_index.proofs.Held.{entries_seen}
use Rattle.intern_index.proofs.Listings.{listed_in}
use Rattle.intern_index.proofs.index.Index.iter.Goals as goal

pub returns : goal.returns
returns g c =
    subst (λ es. IsPermutation (list_map listed_at es) (listed c.args.self.now.entries)) (sym c.iter.ensures.rest)
    (listed_in c.self.inside.slots _ (entries_seen _ _ _ _ c.self.view_is) c.self.invariant.apart)
