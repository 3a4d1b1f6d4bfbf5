use Rattle.queries.proofs.Paths.{stuck_memo}
use Rattle.queries.proofs.cache.Cache.give_up.Goals as goal

pub returns-in_err-put-clause-cache : goal.returns-in_err-put-clause-cache
returns-in_err-put-clause-cache c sheet is top all =
    c.put.ensures.cache sheet is (stuck_memo sheet _ _ c.args.through c.args.top.now _ top)

pub loop-frame-init : goal.loop-frame-init
loop-frame-init c = record {
  keys = c.in_ok-put.ensures.keys;
  counts = c.in_ok-put.ensures.counts;
  cache = λ sheet is top all.
      c.put.ensures.cache sheet is (stuck_memo sheet _ _ c.args.through c.args.top.now _ top);
}
