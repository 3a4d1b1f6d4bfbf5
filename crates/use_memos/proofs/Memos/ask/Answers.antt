use Rattle.std.proofs.Common.{◌≡◌, refl}
use Rattle.ra_ap_intern.specs.State.{interned}
use Rattle.ra_ap_intern.specs.Under.{under_value, Covers}
use Rattle.ra_ap_intern.proofs.CallerLemmas.{becomes_either, covers_on, interned_reads_on, value_stays}
use Rattle.use_memos.proofs.Memos.ask.Goals as goal

pub invariant_of-self : goal.invariant_of-self
invariant_of-self g c =
    let eq = g.T.PartialEq.eq in
    let memos = c.args.self.now in
    let next = (interned eq memos.arguments c.args.argument).state in
    let call = c.get_or_intern_gc in
    let on = interned_reads_on eq memos.arguments c.number-number.ensures.state c.args.argument in
    record {
      covered = becomes_either (λ s. Covers s memos.results) call.result memos.arguments call.new.self
          next call.ensures.state memos.covered
          (covers_on memos.arguments next memos.results on memos.covered);
    }

pub returns-clause-stays : goal.returns-clause-stays
returns-clause-stays g c =
    let eq = g.T.PartialEq.eq in
    let memos = c.args.self.now in
    let call = c.get_or_intern_gc in
    becomes_either (λ s. (other : g.row.T.Denot) → under_value eq s memos.results other
    ≡ under_value eq memos.arguments memos.results other) call.result memos.arguments call.new.self
    (interned eq memos.arguments c.args.argument).state call.ensures.state (λ other. refl)
    (value_stays eq g.met.T.Eq.laws memos.arguments c.number-number.ensures.state c.args.argument
    memos.results memos.covered)
