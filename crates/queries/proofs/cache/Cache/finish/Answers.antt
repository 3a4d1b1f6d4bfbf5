use Rattle.std.proofs.Common.{refl, sym, subst}
use Rattle.queries.specs.Path.{IsPath}
use Rattle.queries.proofs.Equal.{keys_alike}
use Rattle.queries.proofs.Paths.{path_takes}
use Rattle.queries.proofs.Steps.{nearer_finish, state_of_keys}
use Rattle.queries.proofs.cache.Cache.finish.Goals as goal

pub returns-clause-goes_on : goal.returns-clause-goes_on
returns-clause-goes_on c root path =
    let waiting = c.in-Some.waiting in
    path_takes c.args.sheet.now c.settle.new.self.keys root c.args.top.now.key _ _ waiting
    (record waiting { values = c.push.new.self }) c.in_ok-value.value
    (subst (λ keys. IsPath c.args.sheet.now keys root c.args.path.now.frames.items c.args.top.now.key)
    (sym c.in_ok-value.ensures.keys) path)
    c.in-Some.ensures c.in_ok-value.ensures.value refl refl refl c.in_ok-push.ensures.items

pub returns-clause-nearer : goal.returns-clause-nearer
returns-clause-nearer c root path =
    let waiting = c.in-Some.waiting in
    let keys = c.args.self.now.keys in
    nearer_finish c.args.sheet.now root c.args.self.now c.settle.new.self c.args.top.now waiting
    (record waiting { values = c.push.new.self }) c.pop.new.self.frames.items
    c.args.path.now.frames.items c.in_ok-value.value
    (state_of_keys _ keys_alike keys c.number-number.ensures.state)
    c.in_ok-value.ensures.settled c.in-Some.ensures refl refl c.in_ok-push.ensures.items
