use Rattle.std.proofs.Common.{sym, subst}
use Rattle.intern_marks.specs.Names.{has}
use Rattle.intern_marks.specs.Reach.{IsClosed}
use Rattle.intern_marks.proofs.Reaching.{closed_again}
use Rattle.ra_ap_intern.proofs.laws.a_closed_family_stays_closed.Goals as goal

pub returns : goal.returns
returns g c = λ f listed names is closed.
    subst IsClosed (sym (g.met.F.Family.kept_entries f (has names))) (closed_again (g.F.Family.entries f) listed names is closed)
