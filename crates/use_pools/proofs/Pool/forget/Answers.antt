use Rattle.std.proofs.Common.{false}
use Rattle.ra_ap_intern.specs.Handle.{name_of}
use Rattle.ra_ap_intern.proofs.CallerLemmas.{names_pushed, handle_popped, counted_released}
use Rattle.use_pools.proofs.Pool.forget.Goals as goal

pub invariant_of-self-2 : goal.invariant_of-self-2
invariant_of-self-2 c =
    let pool = c.args.self.now in
    let is = handle_popped name_of false pool.words _ pool.held.items _ c.in_ok-handle.handle
    c.in_ok-handle.ensures.items pool.balanced c.release.result _ c.release.ensures.refused
    c.release.ensures.state in
    record {
      balanced = is.balanced;
      counted = rw is.state
          (counted_released pool.words (name_of c.in_ok-handle.handle).birth pool.counted);
    }

pub unwrap-requires : goal.unwrap-requires
unwrap-requires c =
    let pool = c.args.self.now in
    (handle_popped name_of false pool.words _ pool.held.items _ c.in_ok-handle.handle
    c.in_ok-handle.ensures.items pool.balanced c.release.result _ c.release.ensures.refused
    c.release.ensures.state).ok

pub returns-clause-last : goal.returns-clause-last
returns-clause-last c =
    let handle = c.in_ok-handle.handle in (
      name_of handle,
      names_pushed name_of c.pop.new.self.items _ handle c.in_ok-handle.ensures.items,
      rw c.unwrap.ensures at c.release.ensures.value,
      rw c.unwrap.ensures at c.release.ensures.state,
    )
