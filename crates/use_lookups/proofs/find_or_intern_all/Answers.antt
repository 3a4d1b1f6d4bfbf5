use Rattle.std.proofs.Common.{ap, ◌∙◌}
use Rattle.std.specs.Vec.Iter.{into_iter_items}
use Rattle.ra_ap_intern.specs.State.{reads, interned}
use Rattle.ra_ap_intern.proofs.CallerLemmas.{interning_collected, in_turn_reads}
use Rattle.use_lookups.proofs.find_or_intern_all.Goals as goal

pub returns-clause-reads : goal.returns-clause-reads
returns-clause-reads g c = λ i v at.
    let eq = g.T.PartialEq.eq in
    let laws = g.met.T.Eq.laws in
    let r = in_turn_reads (λ s v. (interned eq s v).state) eq (interning_collected eq laws) laws c.args.storage.now
    c.number-number.ensures.state (into_iter_items c.args.values.now) i v at in
    (r.0, r.1, r.2.0, ap (λ s. reads s r.0) c.in_ok-extend.ensures.ok.state ∙ r.2.1, r.2.2)
