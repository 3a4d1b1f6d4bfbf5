use Rattle.std.proofs.Common.{◌≡◌, true, sym, ◌∙◌, rules}
use Rattle.types.proofs.Closed.{found_closed}
use Rattle.types.proofs.store.Types.is_closed.Goals as goal

pub returns : goal.returns
returns c found =
    let is : c.contains.result ≡ true = search rules in
    rw (← c.self.view_is) (found_closed _ _ _ c.references_are_names.ensures.equal c.self.invariant c.args.handle
    (sym c.contains.ensures ∙ is))
