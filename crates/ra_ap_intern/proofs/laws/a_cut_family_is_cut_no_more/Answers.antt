use Rattle.std.proofs.Common.{sym, ◌∙◌, ap}
use Rattle.intern_marks.specs.Reach.{is_entry}
use Rattle.ra_ap_intern.proofs.Collections.{kept_in}
use Rattle.ra_ap_intern.proofs.laws.a_cut_family_is_cut_no_more.Goals as goal

pub returns : goal.returns
returns g c = λ f set.
    g.met.F.Family.kept_whole (g.F.Family.kept f set) set
    (λ x there. kept_in set (g.F.Family.entries f) x (ap (λ es. is_entry es x) (sym (g.met.F.Family.kept_entries f set)) ∙ there))
