use Rattle.std.proofs.Common.{is_some, refl, ap, sym, ◌∙◌}
use native.Mathlib.Bridge.{le_prop}
use Rattle.std.specs.Option.{option_map}
use Rattle.std.proofs.lemmas.Option.{same_Some}
use Rattle.slab.proofs.SlabLemmas.{Updates-with_value}
use Rattle.intern_index.specs.IndexEntry.{IndexEntry, with_payload}
use Rattle.intern_index.specs.Entries.{seen}
use Rattle.intern_index.specs.declared.entry.Entry.{Entry}
use Rattle.intern_index.proofs.Held.{entry_there, at_seen, seen_at, entries_seen, changed_alike}
use Rattle.intern_index.proofs.Changes.{repaid_tied, repaid_seen, room_written}
use Rattle.intern_index.proofs.index.Index.change.Goals as goal

pub same-self : goal.same-self
same-self g c = ap (λ h. record c.self.inside { by_hash = record c.self.inside.by_hash { homed = h } }) (le_prop _ _)

pub returns-in_err-place-clause-payload : goal.returns-in_err-place-clause-payload
returns-in_err-place-clause-payload g c =
    c.from_residual.ensures ∙ ap (option_map (λ (e : IndexEntry g.row.T.Denot g.row.N.Denot). e.payload)) c.in_err-place.ensures

pub returns-in_err-place-clause-state : goal.returns-in_err-place-clause-state
returns-in_err-place-clause-state g c =
    ap (λ o. record c.args.self.now { entries = with_payload (g.C.Change.changed c.args.change.now) c.args.self.now.entries c.args.spot.birth o }) c.in_err-place.ensures

pub index_mut-entry-requires : goal.index_mut-entry-requires
index_mut-entry-requires g c = ap is_some (entry_there c.self.inside.slots _ _ (at_seen c.self.inside.slots _ (entries_seen _ _ _ _ c.self.view_is) c.args.spot.birth c.in_ok-place.place c.in_ok-place.field-0-1.now c.in_ok-place.ensures)).1

pub invariant_of-self : goal.invariant_of-self
invariant_of-self g c =
    let there = c.index_mut-entry.ensures.value in
    repaid_tied c.self.inside.slots _ _ c.self.invariant c.in_ok-place.place c.index_mut-entry.result.now _ there refl
    (Updates-with_value c.self.inside.slots c.in_ok-place.place _ (ap is_some there))

pub returns-clause-payload : goal.returns-clause-payload
returns-clause-payload g c =
    let at = at_seen c.self.inside.slots _ (entries_seen _ _ _ _ c.self.view_is) c.args.spot.birth c.in_ok-place.place c.in_ok-place.field-0-1.now c.in_ok-place.ensures in
    ap (option_map (λ (e : IndexEntry g.row.T.Denot g.row.N.Denot). e.payload))
    (ap (option_map (seen c.in_ok-place.place)) (sym c.index_mut-entry.ensures.value) ∙ seen_at c.self.inside.slots _ (entries_seen _ _ _ _ c.self.view_is) c.self.invariant.apart c.in_ok-place.place c.args.spot.birth at)

pub returns-clause-state : goal.returns-clause-state
returns-clause-state g c =
    let there = c.index_mut-entry.ensures.value in
    let entry = c.index_mut-entry.result.now in
    let at = at_seen c.self.inside.slots _ (entries_seen _ _ _ _ c.self.view_is) c.args.spot.birth c.in_ok-place.place c.in_ok-place.field-0-1.now c.in_ok-place.ensures in
    let birth = same_Some _ _ (sym (ap (option_map (λ (e : Entry g.row.T.Denot g.row.N.Denot). e.birth)) there) ∙ at) in
    changed_alike _ _ _ _ c.self.view_is _ _ _ (
    repaid_seen c.self.inside.slots _ _ c.self.invariant _ (entries_seen _ _ _ _ c.self.view_is) c.in_ok-place.place c.args.spot.birth (g.C.Change.changed c.args.change.now) entry _ there birth
    (ap (λ p. record entry { payload = p }) c.changed-entry.ensures)
    (Updates-with_value c.self.inside.slots c.in_ok-place.place _ (ap is_some there)))
    (room_written c.self.inside.slots c.in_ok-place.place _ _ (g.B.Births.free c.self.inside.births) (ap is_some there))
