use Rattle.std.proofs.Common.{sym, refl, ◌∙◌, arith}
use Rattle.ra_ap_intern.specs.Handle.{ref_name}
use Rattle.ra_ap_intern.proofs.CallerLemmas.{handles_tested, names_same}
use Rattle.queries.proofs.path.is_among.Goals as goal

pub returns-then-eq : goal.returns-then-eq
returns-then-eq c = (
  λ holds. (
    c.loop-frame.frame-index,
    c.frame-item.result,
    omega arith,
    sym c.frame-item.is,
    names_same _ _
        (sym ((handles_tested _ ref_name c.references_are_names.ensures.equal) c.frame-item.result.handle c.args.handle)
        ∙ sym c.if-eq.ensures),
  ),
  λ any. refl,
)
