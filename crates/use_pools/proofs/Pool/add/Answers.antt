use Rattle.std.proofs.Common.{◌≡◌, [], ◌∷◌, ◌++◌, arith}
use Rattle.std.specs.Str.{bytes_eq}
use Rattle.ra_ap_intern.specs.Handle.{name_of}
use Rattle.ra_ap_intern.proofs.CallerLemmas.{handle_pushed, counted_interned_counted}
use Rattle.use_pools.proofs.Pool.add.Goals as goal

pub invariant_of-self-2 : goal.invariant_of-self-2
invariant_of-self-2 c =
    let pool = c.args.self.now in
    let stored = c.in_ok-handle.ensures in
    let pushed : c.push.new.self.items ≡ pool.held.items ++ c.in_ok-handle.handle ∷ [] =
    grind (arith, c.push.ensures, c.in_ok-reserve.ensures) in
    record {
      balanced = handle_pushed name_of bytes_eq pool.words _ c.args.word.now pool.held.items _ _
          pushed stored.name stored.state c.number-number.ensures.state pool.balanced;
      counted = rw stored.state
          (counted_interned_counted bytes_eq pool.words c.args.word.now pool.counted);
    }
