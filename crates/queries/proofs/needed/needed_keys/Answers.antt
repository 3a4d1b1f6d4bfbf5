use Rattle.std.proofs.Common.{◌≡◌, ◌≤◌, length, arith}
use Rattle.queries.proofs.Needs.{reading_begun, reading_ended, reading_more}
use Rattle.queries.proofs.needed.needed_keys.Goals as goal

pub loop-index-init : goal.loop-index-init
loop-index-init c = reading_begun c.args.sheet.now c.args.keys.now _ c.in_ok-needed.ensures

pub loop-index-preserved : goal.loop-index-preserved
loop-index-preserved c =
    reading_more c.args.sheet.now c.args.keys.now c.loop-index.index c.loop-index.needed.keys _
    c.index-key.result.now c.loop-index.invariant c.index-key.ensures c.in_ok-need_reads.ensures

pub returns : goal.returns
returns c =
    let past : length c.loop-index.needed.keys ≤ c.loop-index.index =
    let same : c.len.result ≡ length c.loop-index.needed.keys = c.len.ensures.len in
    let ended = c.loop-index-test.false in omega arith in
    reading_ended c.args.sheet.now c.args.keys.now c.loop-index.index c.loop-index.needed.keys
    c.loop-index.invariant past
