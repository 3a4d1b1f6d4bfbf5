use Rattle.std.proofs.Common.{map, sym, subst}
use Rattle.std.proofs.lemmas.Result.{IfOk-weaker}
use Rattle.ra_ap_intern.specs.Handle.{ref_name}
use Rattle.queries.specs.Needed.{AreNeeded}
use Rattle.queries.specs.Spreadsheet.{IsCleared}
use Rattle.queries.proofs.Needs.{cleared}
use Rattle.queries.proofs.spreadsheet.Spreadsheet.collect.Goals as goal

pub returns-clause-ok : goal.returns-clause-ok
returns-clause-ok c =
    let sheet = c.self.inside.sheet in
    let old = c.self.inside.cache.keys in
    let new = c.collect.new.self.keys in
    let needed = subst (λ handles. AreNeeded sheet old (map ref_name handles))
    (sym c.as_slice.ensures.value) c.in_ok-needed.ensures in
    IfOk-weaker c.collect.result _ _ (λ gone kept.
    subst (λ b. IsCleared b (record { sheet = sheet; keys = new; counts = c.collect.new.self.counts }) gone)
    c.self.view_is
    (cleared sheet old new _ kept.names kept.told kept.reached kept.keys needed gone kept.count _ _
    c.collect.ensures.counts))
    c.collect.ensures.ok
