use Rattle.std.proofs.Common.{sym, ◌∙◌}
use Rattle.ra_ap_intern.specs.Handle.{ref_name}
use Rattle.ra_ap_intern.proofs.CallerLemmas.{set_named}
use Rattle.use_walks.proofs.occurs.Goals as goal

pub returns : goal.returns
returns c =
    let met = c.in_ok-parts.ensures (ref_name c.args.part) in
    let same =
    c.contains.ensures
    ∙ set_named _ c.references_are_names.ensures.equal c.in_ok-parts.field-0.keys c.args.part in
    (λ is. met.0 (sym same ∙ is), λ within. same ∙ met.1 within)
