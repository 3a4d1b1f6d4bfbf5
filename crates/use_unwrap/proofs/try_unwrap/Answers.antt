use Rattle.std.proofs.Common.{rules, ◌≡◌, ap, ◌∙◌}
use Rattle.ra_ap_intern.specs.Handle.{name_of}
use Rattle.ra_ap_intern.specs.State.{reads, taken}
use Rattle.ra_ap_intern.proofs.CallerLemmas.{taken_reads}
use Rattle.use_unwrap.proofs.try_unwrap.Goals as goal

pub returns-in-Ok-Some-clause-others : goal.returns-in-Ok-Some-clause-others
returns-in-Ok-Some-clause-others g c n other =
    let storage = c.args.storage.now in
    let birth = (name_of c.args.handle).birth in
    let took : c.release.new.storage ≡ taken storage birth = search rules in
    ap (λ s. reads s n) took ∙ taken_reads storage birth n other
