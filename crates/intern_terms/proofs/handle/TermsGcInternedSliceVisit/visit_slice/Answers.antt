use Rattle.std.proofs.Common.{ap, ◌∙◌}
use Rattle.ra_ap_intern.specs.Marks.{marks}
use Rattle.ra_ap_intern.proofs.CallerLemmas.{listed_singly}
use Rattle.intern_terms.specs.Handle.{term_name}
use Rattle.intern_terms.proofs.handle.TermsGcInternedSliceVisit.visit_slice.Goals as goal

pub returns : goal.returns
returns c = c.mark_all.ensures ∙ ap (marks c.args.gc.now) (listed_singly term_name c.args.slice.now)
