use Rattle.intern_index.proofs.Held.{entries_seen}
use Rattle.intern_index.proofs.Finds.{none_fits, one_fits, one_placed}
use Rattle.intern_index.proofs.index.Index.find.Goals as goal

pub returns-in_err-place-clause-none : goal.returns-in_err-place-clause-none
returns-in_err-place-clause-none g c =
    rw c.from_residual.ensures
    (none_fits (g.Q.Query.fits c.args.query.now) c.self.inside.slots _ c.self.invariant c.self.inside.by_hash.buckets c.args.hash c.in_err-place.ensures.none _ _ c.self.view_is)

pub returns-clause-found : goal.returns-clause-found
returns-clause-found g c =
    rw c.get-birth.ensures
    (one_fits (g.Q.Query.fits c.args.query.now) c.self.inside.slots _ c.self.invariant _ (entries_seen _ _ _ _ c.self.view_is) c.in_ok-place.place c.index.result.now c.index.ensures c.in_ok-place.ensures.found)

pub returns-clause-place : goal.returns-clause-place
returns-clause-place g c =
    rw c.get-birth.ensures
    (one_placed (g.Q.Query.fits c.args.query.now) c.self.inside.slots _ c.self.invariant _ (entries_seen _ _ _ _ c.self.view_is) c.in_ok-place.place c.index.result.now c.index.ensures)
