use Rattle.std.proofs.Common.{◌≡◌, rules}
use Rattle.std.specs.HashMap.{values}
use Rattle.types.proofs.Environments.{declares_collected}
use Rattle.types.proofs.environment.Environment.collect.Goals as goal

pub returns-clause-ok : goal.returns-clause-ok
returns-clause-ok c =
    let all : c.in_ok-roots.roots.items ≡ values c.args.self.now.declared = search rules in
    rw (← all, ← c.as_slice.ensures.value) c.collect-2.ensures.ok

pub returns-clause-trees : goal.returns-clause-trees
returns-clause-trees c name t =
    declares_collected c.args.self.now name t c.collect-2.new.self c.collect-2.result
    (returns-clause-ok c) c.collect-2.ensures.err
