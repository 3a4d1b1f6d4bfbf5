use Rattle.std.proofs.Common.{◌+◌, ◌∙◌, ◌∷◌, [], map, take, sym, ap, subst}
use Rattle.std.proofs.lemmas.List.{map-append, take_all}
use Rattle.std.proofs.lemmas.Option.{slice_get-get_or}
use Rattle.ra_ap_intern.specs.Handle.{ref_name}
use Rattle.queries.proofs.Equal.{keys_alike}
use Rattle.queries.proofs.Memos.{found_none, found_one}
use Rattle.queries.proofs.Needs.{HasNames, named_reads, names_more, names_past}
use Rattle.queries.proofs.needed.needed_handles.Goals as goal
use Rattle.queries.proofs.needed.needed_handles.Goals.{in-Some+in_ok-push, in_default}

pub loop-key-preserved : goal.loop-key-preserved
loop-key-preserved c =
    let keys = c.args.keys.now in
    let all = c.as_slice-key-items.result.now in
    let i = c.loop-key.key-index in
    let alike = keys_alike in
    let ok = c.number-number.ensures.state in
    let Named = HasNames keys (take (i + 1) all) in
    elim c.match-get.branch [
      | in-Some+in_ok-push w ↦
          let name = ref_name w.in-Some.handle in
          let at = w.in-Some.ensures in
          subst Named
          (sym (ap (λ hs. map ref_name hs.items) w.handles-is ∙ ap (map ref_name) w.in_ok-push.ensures.items
          ∙ map-append ref_name _ (w.in-Some.handle ∷ [])))
          (names_more keys all i _ (slice_get-get_or all i _ c.loop-key-test.true) _ c.loop-key.invariant
          name (named_reads _ alike keys _ name at)
          (λ other read. found_one _ alike keys ok _ name other at read))
      | in_default w ↦
          subst Named (sym (ap (λ hs. map ref_name hs.items) w.handles-is))
          (names_past keys all i _ (slice_get-get_or all i _ c.loop-key-test.true) _ c.loop-key.invariant
          (λ handle. found_none _ alike keys ok _ handle.0 w.in_default.ensures handle.1))
    ]

pub returns : goal.returns
returns c name =
    let all = subst (λ keys. HasNames c.args.keys.now keys (map ref_name c.loop-key.handles.items))
    (take_all _ _ c.loop-key-test.false ∙ c.as_slice-key-items.ensures.keys) c.loop-key.invariant name in
    let needed = c.in_ok-needed.ensures in (
      λ is. let of = all.0 is in (of.0, of.1, (needed of.0).0 of.2),
      λ of. all.1 (of.0, of.1, (needed of.0).1 of.2),
    )
