use Rattle.std.proofs.Common.{is_some, refl, ap, sym, ◌∙◌}
use native.Mathlib.Bridge.{le_prop}
use Rattle.std.specs.Option.{option_map}
use Rattle.slab.proofs.SlabLemmas.{Updates-with_value}
use Rattle.intern_index.specs.IndexEntry.{IndexEntry}
use Rattle.intern_index.specs.Entries.{seen}
use Rattle.intern_index.proofs.Held.{birth_there, seen_at, entries_seen, changed_alike}
use Rattle.intern_index.proofs.Changes.{repaid_tied, repaid_seen, room_written}
use Rattle.intern_index.proofs.Finds.{none_fits, one_fits, one_placed}
use Rattle.intern_index.proofs.index.Index.find_and_change.Goals as goal

pub same-self : goal.same-self
same-self g c = ap (λ h. record c.self.inside { by_hash = record c.self.inside.by_hash { homed = h } }) (le_prop _ _)

pub returns-in_err-place-clause-none : goal.returns-in_err-place-clause-none
returns-in_err-place-clause-none g c =
    rw c.from_residual.ensures
    (none_fits (g.Q.Query.fits c.args.query.now) c.self.inside.slots _ c.self.invariant c.self.inside.by_hash.buckets c.args.hash c.in_err-place.ensures.none _ _ c.self.view_is)

pub invariant_of-self : goal.invariant_of-self
invariant_of-self g c =
    let there = c.index_mut-entry.ensures.value in
    repaid_tied c.self.inside.slots _ _ c.self.invariant c.in_ok-place.place c.index_mut-entry.result.now _ there refl
    (Updates-with_value c.self.inside.slots c.in_ok-place.place _ (ap is_some there))

pub returns-clause-found : goal.returns-clause-found
returns-clause-found g c =
    rw c.get-birth.ensures
    (one_fits (g.Q.Query.fits c.args.query.now) c.self.inside.slots _ c.self.invariant _ (entries_seen _ _ _ _ c.self.view_is) c.in_ok-place.place c.index_mut-entry.result.now c.index_mut-entry.ensures.value c.in_ok-place.ensures.found)

pub returns-clause-place : goal.returns-clause-place
returns-clause-place g c =
    rw c.get-birth.ensures
    (one_placed (g.Q.Query.fits c.args.query.now) c.self.inside.slots _ c.self.invariant _ (entries_seen _ _ _ _ c.self.view_is) c.in_ok-place.place c.index_mut-entry.result.now c.index_mut-entry.ensures.value)

pub returns-clause-payload : goal.returns-clause-payload
returns-clause-payload g c =
    let there = c.index_mut-entry.ensures.value in
    let birth = c.index_mut-entry.result.now.birth in
    let at = birth_there c.self.inside.slots c.in_ok-place.place birth c.index_mut-entry.result.now there refl in
    rw c.get-birth.ensures (ap (option_map (λ (e : IndexEntry g.row.T.Denot g.row.N.Denot). e.payload))
    (sym (seen_at c.self.inside.slots _ (entries_seen _ _ _ _ c.self.view_is) c.self.invariant.apart c.in_ok-place.place birth at) ∙ ap (option_map (seen c.in_ok-place.place)) there))

pub returns-clause-state : goal.returns-clause-state
returns-clause-state g c =
    let there = c.index_mut-entry.ensures.value in
    let entry = c.index_mut-entry.result.now in
    rw c.get-birth.ensures (changed_alike _ _ _ _ c.self.view_is _ _ _ (
    repaid_seen c.self.inside.slots _ _ c.self.invariant _ (entries_seen _ _ _ _ c.self.view_is) c.in_ok-place.place entry.birth (g.C.Change.changed c.args.change.now) entry _ there refl
    (ap (λ p. record entry { payload = p }) c.changed-entry.ensures)
    (Updates-with_value c.self.inside.slots c.in_ok-place.place _ (ap is_some there)))
    (room_written c.self.inside.slots c.in_ok-place.place _ _ (g.B.Births.free c.self.inside.births) (ap is_some there)))
