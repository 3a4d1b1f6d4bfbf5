use Rattle.std.proofs.Common.{ap, sym, ◌∙◌}
use Rattle.std.specs.FinMap.{get}
use Rattle.std.specs.Option.{option_map}
use Rattle.intern_index.proofs.Held.{entries_seen, read_there}
use Rattle.intern_index.proofs.Ranks.{ranked_there, ranked_spot, ranked_none, told_ranked}
use Rattle.intern_index.proofs.index.Index+T+N+BirthOrder.nth.Goals as goal

pub index-entry-requires : goal.index-entry-requires
index-entry-requires g c =
    let s = c.self.inside.slots in
    let is = c.place.ensures in
    let view = entries_seen _ _ _ _ c.self.view_is in
    let told = told_ranked s c.self.invariant.apart _ view is.places is.order c.args.at c.args.before c.place.result c.requires.within c.requires.before is.ranked in
    ranked_there s c.self.invariant.apart _ view is.places is.order c.args.at c.in_ok-place.place (sym told ∙ c.in_ok-place.was)

pub returns-in_err-place-clause-spot : goal.returns-in_err-place-clause-spot
returns-in_err-place-clause-spot g c =
    let s = c.self.inside.slots in
    let is = c.place.ensures in
    let view = entries_seen _ _ _ _ c.self.view_is in
    let told = told_ranked s c.self.invariant.apart _ view is.places is.order c.args.at c.args.before c.place.result c.requires.within c.requires.before is.ranked in
    ap (option_map (λ r. r.0)) c.from_residual.ensures ∙ ranked_none s c.self.invariant.apart _ view is.places is.order c.args.at (sym told ∙ c.in_err-place.was)

pub returns-clause-spot : goal.returns-clause-spot
returns-clause-spot g c =
    let s = c.self.inside.slots in
    let is = c.place.ensures in
    let view = entries_seen _ _ _ _ c.self.view_is in
    let told = told_ranked s c.self.invariant.apart _ view is.places is.order c.args.at c.args.before c.place.result c.requires.within c.requires.before is.ranked in
    rw c.get-birth.ensures
    (ranked_spot s c.self.invariant.apart _ view is.places is.order c.args.at c.in_ok-place.place c.index-entry.result.now (sym told ∙ c.in_ok-place.was) c.index-entry.ensures)

pub returns-clause-entry : goal.returns-clause-entry
returns-clause-entry g c =
    let s = c.self.inside.slots in
    let e = c.index-entry.result.now in
    rw c.get-birth.ensures (ap (λ m. get m e.birth) (sym (entries_seen _ _ _ _ c.self.view_is)) ∙ read_there s c.self.invariant.apart c.in_ok-place.place e c.index-entry.ensures)
