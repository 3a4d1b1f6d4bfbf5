use Rattle.std.proofs.Common.{◌≡◌, List, [], ◌∷◌, ◌++◌, ap, sym, ◌∙◌, append_assoc, arith}
use Rattle.std.proofs.lemmas.List.{append-nil, nil_from_length}
use Rattle.std.specs.Vec.Iter.{into_iter_items}
use Rattle.intern_calls.specs.declared.call.Call.{Call}
use Rattle.intern_world.proofs.Runs.{no_run, one_more, along}
use Rattle.intern_world.proofs.turns.run_over.Goals as goal

pub loop-call-init : goal.loop-call-init
loop-call-init g c = record {
  run = no_run _ _ _ c.learn.ensures.world c.requires.none;
  distinct = c.requires.distinct;
  left = c.into_iter-call-iterator.ensures.into_iter_gives.0;
  room = let h = c.into_iter-call-iterator.ensures.into_iter_gives.1 in
      let k = c.requires.room in omega arith;
  reply_room = let h = c.into_iter-call-iterator.ensures.into_iter_gives.1 in
      let k = c.requires.reply_room in omega arith;
}

pub loop-call-preserved : goal.loop-call-preserved
loop-call-preserved g c = record {
  run = rw c.push_reserved.ensures.items (one_more _ _ _ _ _ _ _ _ c.loop-call.invariant.run
      c.turn-reply.ensures.step c.turn-reply.ensures.world);
  distinct = c.turn-reply.ensures.world.distinct;
  left = append_assoc c.loop-call.yielded (c.in-Some.call ∷ []) (into_iter_items c.next.new.self)
      ∙ ap (λ (t : List (Call _ _ _ _ _)). c.loop-call.yielded ++ t)
      (sym c.in-Some.ensures.steps.0) ∙ c.loop-call.invariant.left;
  room = let h = c.in-Some.ensures.steps.1 in omega arith;
  reply_room = let h = c.in-Some.ensures.steps.1 in omega arith;
}

pub returns-clause-run : goal.returns-clause-run
returns-clause-run g c =
    let none : into_iter_items c.loop-call.call-iterator ≡ [] =
    nil_from_length _ (sym c.loop-call.call-iterator.rest.ok.0 ∙ c.in-None.ensures.steps.0) in
    let all : c.loop-call.yielded ≡ c.args.calls.items =
    sym (append-nil c.loop-call.yielded)
    ∙ ap (λ (t : List (Call _ _ _ _ _)). c.loop-call.yielded ++ t) (sym none)
    ∙ c.loop-call.invariant.left in
    along _ _ _ _ _ c.handles_tell_values_along_runs.ensures c.names_keep_what_they_read.ensures
    c.counts_balance.ensures c.collections_leave_what_is_reached.ensures
    (rw all at c.loop-call.invariant.run)
