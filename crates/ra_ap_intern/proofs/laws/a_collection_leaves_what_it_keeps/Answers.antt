use Rattle.std.proofs.Common.{◌∙◌, ap}
use Rattle.intern_marks.specs.Names.{has}
use Rattle.intern_marks.specs.Reach.{entry_of}
use Rattle.ra_ap_intern.proofs.Collections.{entry_kept}
use Rattle.ra_ap_intern.proofs.laws.a_collection_leaves_what_it_keeps.Goals as goal

pub returns : goal.returns
returns g c = λ f listed names is n.
    ap (λ es. entry_of es n) (g.met.F.Family.kept_entries f (has names)) ∙ entry_kept (has names) (g.F.Family.entries f) n
