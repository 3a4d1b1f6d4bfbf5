use Rattle.std.proofs.Common.{Some, ap, sym, ◌∙◌}
use Rattle.std.specs.Option.{option_map}
use Rattle.intern_index.specs.Entries.{seen}
use Rattle.intern_index.specs.declared.entry.Entry.{Entry}
use Rattle.intern_index.proofs.Held.{seen_at, seen_nowhere, entries_seen}
use Rattle.intern_index.proofs.index.Index.entry.Goals as goal

pub returns-in-Some : goal.returns-in-Some
returns-in-Some g c =
    let place = c.args.spot.place in
    let birth = sym (ap (option_map (λ (e : Entry g.row.T.Denot g.row.N.Denot). e.birth)) c.in-Some.ensures) ∙ ap Some (sym c.get-in-Some-1.ensures ∙ c.if-get-spot.true) in
    ap (option_map (seen place)) c.in-Some.ensures ∙ seen_at c.self.inside.slots _ (entries_seen _ _ _ _ c.self.view_is) c.self.invariant.apart place c.args.spot.birth birth

pub returns-in_ok-place-in_default : goal.returns-in_ok-place-in_default
returns-in_ok-place-in_default g c =
    let at = c.in_ok-place-in_default in
    ap (option_map (seen at.place)) (sym c.index.ensures) ∙ seen_at c.self.inside.slots _ (entries_seen _ _ _ _ c.self.view_is) c.self.invariant.apart at.place c.args.spot.birth at.ensures.found

pub returns-in_err-place-in_default : goal.returns-in_err-place-in_default
returns-in_err-place-in_default g c =
    ap (option_map _) c.from_residual.ensures ∙ sym (seen_nowhere c.self.inside.slots _ (entries_seen _ _ _ _ c.self.view_is) c.args.spot.birth c.in_err-place-in_default.ensures.absent)
