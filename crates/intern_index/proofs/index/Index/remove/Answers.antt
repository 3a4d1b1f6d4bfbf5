use Rattle.std.proofs.Common.{is_some, ap, sym, ◌∙◌}
use native.Mathlib.Bridge.{le_prop}
use Rattle.std.specs.Option.{option_map}
use Rattle.intern_index.specs.IndexEntry.{IndexEntry}
use Rattle.intern_index.specs.Entries.{birth_at}
use Rattle.intern_index.proofs.Held.{entry_there, birth_there, at_seen, seen_at, entries_seen, changed_seen}
use Rattle.intern_index.proofs.Changes.{less_tied, left_there, removed_seen, unremoved}
use Rattle.intern_index.proofs.index.Index.remove.Goals as goal

pub same-self : goal.same-self
same-self g c = ap (λ h. record c.self.inside { by_hash = record c.self.inside.by_hash { homed = h } }) (le_prop _ _)

pub returns-in_err-place-clause-value : goal.returns-in_err-place-clause-value
returns-in_err-place-clause-value g c =
    c.from_residual.ensures ∙ ap (option_map (λ (e : IndexEntry g.row.T.Denot g.row.N.Denot). e.value)) c.in_err-place.ensures

pub returns-in_err-place-clause-removed : goal.returns-in_err-place-clause-removed
returns-in_err-place-clause-removed g c = ap (λ m. record c.args.self.now { entries = m }) (unremoved _ c.args.spot.birth (sym c.in_err-place.ensures))

pub remove-entry-requires : goal.remove-entry-requires
remove-entry-requires g c = ap is_some (entry_there c.self.inside.slots _ _ (at_seen c.self.inside.slots _ (entries_seen _ _ _ _ c.self.view_is) c.args.spot.birth c.in_ok-place.place c.in_ok-place.field-0-1.now c.in_ok-place.ensures)).1

pub invariant_of-self : goal.invariant_of-self
invariant_of-self g c =
    let was = left_there c.self.inside.slots c.remove-entry.new.self _ c.self.invariant c.in_ok-place.place c.remove-entry.ensures.updates in
    less_tied c.self.inside.slots c.remove-entry.new.self _ c.self.invariant _ was
    (c.forget.ensures (birth_at c.self.inside.slots) c.self.invariant.found (λ p b is.
    let w = entry_there c.remove-entry.new.self p b is in birth_there c.self.inside.slots p b w.0 (was p w.0 w.1) w.2))

pub returns-clause-value : goal.returns-clause-value
returns-clause-value g c =
    let at = at_seen c.self.inside.slots _ (entries_seen _ _ _ _ c.self.view_is) c.args.spot.birth c.in_ok-place.place c.in_ok-place.field-0-1.now c.in_ok-place.ensures in
    ap (λ o. option_map (λ (e : IndexEntry g.row.T.Denot g.row.N.Denot). e.value) o)
    (ap (option_map _) (sym c.remove-entry.ensures.value) ∙ seen_at c.self.inside.slots _ (entries_seen _ _ _ _ c.self.view_is) c.self.invariant.apart c.in_ok-place.place c.args.spot.birth at)

pub returns-clause-removed : goal.returns-clause-removed
returns-clause-removed g c =
    let at = at_seen c.self.inside.slots _ (entries_seen _ _ _ _ c.self.view_is) c.args.spot.birth c.in_ok-place.place c.in_ok-place.field-0-1.now c.in_ok-place.ensures in
    changed_seen _ _ _ _ c.self.view_is _ _ _
    (removed_seen c.self.inside.slots c.remove-entry.new.self _ c.self.invariant _ (entries_seen _ _ _ _ c.self.view_is) c.in_ok-place.place c.args.spot.birth at c.remove-entry.ensures.updates)
