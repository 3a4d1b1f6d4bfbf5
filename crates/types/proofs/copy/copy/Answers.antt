use Rattle.types.proofs.copy.copy.Goals as goal

pub returns-in_err-visit : goal.returns-in_err-visit
returns-in_err-visit c n v read = c.visit.ensures n v (c.loop.invariant n v read)
