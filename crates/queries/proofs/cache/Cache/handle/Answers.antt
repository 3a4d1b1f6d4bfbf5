use Rattle.std.proofs.Common.{refl}
use Rattle.ra_ap_intern.specs.Handle.{ref_name}
use Rattle.ra_ap_intern.proofs.CallerLemmas.{interned_itself}
use Rattle.queries.proofs.Equal.{keys_alike}
use Rattle.queries.proofs.Memos.{stored_on, memos_on}
use Rattle.queries.proofs.Steps.{key_found, keeps_stored, state_of_keys, stored_state}
use Rattle.queries.proofs.cache.Cache.handle.Goals as goal

pub returns-clause-stored : goal.returns-clause-stored
returns-clause-stored c =
    interned_itself _ keys_alike c.args.self.now.keys _
    c.args.key _ c.in_ok-handle.ensures.name c.in_ok-handle.ensures.state

pub returns-clause-on : goal.returns-clause-on
returns-clause-on c =
    stored_on _ keys_alike c.args.self.now.keys _
    c.number-number.ensures.state c.args.key c.in_ok-handle.ensures.state

pub returns-clause-cache : goal.returns-clause-cache
returns-clause-cache c sheet is =
    memos_on sheet c.args.self.now.keys _ c.args.self.now.revision c.args.self.now.memos is
    (stored_on _ keys_alike c.args.self.now.keys _
    c.number-number.ensures.state c.args.key c.in_ok-handle.ensures.state)

pub returns-clause-keyed : goal.returns-clause-keyed
returns-clause-keyed c =
    state_of_keys _ keys_alike c.new_gc.new.storage
    (stored_state _ keys_alike c.args.self.now.keys
    c.new_gc.new.storage c.args.key c.number-number.ensures.state c.in_ok-handle.ensures.refused
    c.in_ok-handle.ensures.state)

pub returns-clause-found : goal.returns-clause-found
returns-clause-found c =
    key_found c.new_gc.new.storage (returns-clause-keyed c) c.args.key (ref_name c.in_ok-handle.handle)
    (returns-clause-stored c)

pub returns-clause-begun : goal.returns-clause-begun
returns-clause-begun c frames =
    keeps_stored c.args.self.now (record c.args.self.now { keys = c.new_gc.new.storage }) frames
    (returns-clause-keyed c) (returns-clause-on c) refl refl
