use Rattle.std.proofs.Common.{◌≡◌, ◌++◌, ◌∷◌, [], List, map as list_map, refl, sym, ap, ◌∙◌, append_assoc, rules, arith}
use Rattle.std.proofs.lemmas.List.{append-nil, map-append}
use Rattle.std.specs.Vec.Iter.{into_iter_items}
use Rattle.intern_store.specs.State.{interned_name, due_interning}
use Rattle.ra_ap_intern.specs.Interning.{Interns}
use Rattle.ra_ap_intern.proofs.InTurn.{one_more}
use Rattle.ra_ap_intern.proofs.intern.each.InternStorage+T+B.extend.Given.{Over}
use Rattle.ra_ap_intern.proofs.intern.each.InternStorage+T+B.extend.Goals as goal
use Rattle.ra_ap_intern.proofs.intern.each.InternStorage+T+B.extend.Goals.{After-push_reserved}

-- a value more was interned, and its handle is in the list
module _ (g : Over) (c : After-push_reserved g) where
  abbrev done : List g.row.T.Denot
  done = c.loop-value.invariant.done

  more : into_iter_items c.args.values.now ≡ (done ++ c.in-Some-next.value ∷ []) ++ into_iter_items c.next-in-loop-value.new.self
  more =
      c.loop-value.invariant.values ∙ ap (λ l. done ++ l) c.in-Some-next.ensures.items
      ∙ sym (append_assoc done (c.in-Some-next.value ∷ []) (into_iter_items c.next-in-loop-value.new.self))

  named : list_map g.H.InternHandle.name c.push_reserved.new.self.items
      ≡ list_map g.H.InternHandle.name c.loop-value.handles.items ++ interned_name g.T.PartialEq.eq c.loop-value.self c.in-Some-next.value ∷ []
  named =
      ap (list_map g.H.InternHandle.name) c.push_reserved.ensures.items
      ∙ map-append g.H.InternHandle.name c.loop-value.handles.items (c.in_ok-handle.handle ∷ [])
      ∙ ap (λ n. list_map g.H.InternHandle.name c.loop-value.handles.items ++ n ∷ []) c.in_ok-handle.ensures.name

  turn : Interns g.H.InternHandle.after g.T.PartialEq.eq g.H.InternHandle.owed c.args.self.now c.intern.new.storage (done ++ c.in-Some-next.value ∷ [])
      (list_map g.H.InternHandle.name c.args.handles.now.items) (list_map g.H.InternHandle.name c.push_reserved.new.self.items)
  turn =
      let more = one_more g.H.InternHandle.after (interned_name g.T.PartialEq.eq) (λ s v. due_interning g.T.PartialEq.eq s v (g.H.InternHandle.owed s))
      c.args.self.now c.loop-value.self done _ _ c.in-Some-next.value c.loop-value.invariant.turn c.in_ok-handle.ensures.refused in
      record { due = more.due; state = c.in_ok-handle.ensures.state ∙ more.state; named = named ∙ more.named }

-- no value was interned yet
pub loop-value-init : goal.loop-value-init
loop-value-init g c =
    record {
      done = [];
      values = refl;
      turn = record { due = tt; state = refl; named = ap (list_map g.H.InternHandle.name) c.reserve.ensures.items ∙ sym (append-nil _) };
      room = search rules;
    }

pub loop-value-preserved-in_ok-handle : goal.loop-value-preserved-in_ok-handle
loop-value-preserved-in_ok-handle g c =
    let pushed = (goal.at.loop-value-preserved-in_ok-handle g c).After-push_reserved in
    record { done = _; values = more g pushed; turn = turn g pushed; room = omega (arith, c.loop-value.invariant.room, c.push_reserved.ensures.len, c.push_reserved.ensures.capacity, c.in-Some-next.ensures.len) }

pub loop-value-preserved : goal.loop-value-preserved
loop-value-preserved g c =
    let pushed = (goal.at.loop-value-preserved g c).After-push_reserved in
    record { done = _; values = more g pushed; turn = turn g pushed; room = omega (arith, c.loop-value.invariant.room, c.push_reserved.ensures.len, c.push_reserved.ensures.capacity, c.in-Some-next.ensures.len) }
