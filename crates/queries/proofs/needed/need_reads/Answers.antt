use Rattle.std.proofs.Common.{◌+◌, ◌∙◌, take, sym, ap, subst}
use Rattle.std.proofs.lemmas.List.{take_all}
use Rattle.std.proofs.lemmas.Option.{slice_get-get_or}
use Rattle.ra_ap_intern.specs.Handle.{ref_name}
use Rattle.queries.specs.Needed.{TakesReads}
use Rattle.queries.proofs.Equal.{keys_alike}
use Rattle.queries.proofs.Needs.{handle_found, handle_none, inserts, takes_more, takes_none, takes_past}
use Rattle.queries.proofs.needed.need_reads.Goals as goal
use Rattle.queries.proofs.needed.need_reads.Goals.{then-is_some+in_ok-insert, else-is_some}

pub loop-read-init : goal.loop-read-init
loop-read-init c = takes_none c.args.keys.now c.args.needed.now.keys

pub loop-read-preserved : goal.loop-read-preserved
loop-read-preserved c =
    let keys = c.args.keys.now in
    let all = c.deref-read-items.result.now in
    let i = c.loop-read.read-index in
    let old = c.args.needed.now.keys in
    let alike = keys_alike in
    let ok = c.number-number.ensures.state in
    let Taken = TakesReads keys (take (i + 1) all) old in
    elim c.if-is_some.branch [
      | then-is_some+in_ok-insert w ↦
          subst Taken (sym (ap (λ s. s.keys) w.needed-is))
          (takes_more keys all i _ (slice_get-get_or _ _ _ c.loop-read-test.true) old _
          c.loop-read.invariant _
          (handle_found _ alike keys ok ref_name _ c.get.result c.get.ensures
          (sym c.is_some.ensures ∙ w.if-is_some.true))
          (inserts _ alike _ _ _ w.in_ok-insert.ensures.keys))
      | else-is_some w ↦
          subst Taken (sym (ap (λ s. s.keys) w.needed-is))
          (takes_past keys all i _ (slice_get-get_or _ _ _ c.loop-read-test.true) old _
          c.loop-read.invariant
          (handle_none _ alike keys ok ref_name _ c.get.result c.get.ensures
          (sym c.is_some.ensures ∙ w.if-is_some.false)))
    ]

pub returns : goal.returns
returns c =
    subst (λ reads. TakesReads c.args.keys.now reads c.args.needed.now.keys c.loop-read.needed.keys)
    (take_all _ _ c.loop-read-test.false ∙ c.deref-read-items.ensures.value ∙ c.in_ok-reads.ensures)
    c.loop-read.invariant
