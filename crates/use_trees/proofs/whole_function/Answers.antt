use Rattle.std.proofs.Common.{◌≡◌, None, arith}
use Rattle.ra_ap_intern.specs.Order.{IsBuilt, due_each}
use Rattle.ra_ap_intern.proofs.CallerLemmas.{becomes_either, built_interned, each_read}
use Rattle.use_types.specs.Types.{declared_by}
use Rattle.use_types.specs.declared.TypeNode.TheVariants.{Function, outs-Function}
use Rattle.use_trees.proofs.whole_function.Goals as goal

pub returns-clause-built : goal.returns-clause-built
returns-clause-built c built =
    let s = c.args.types.now in
    let free : due_each s (declared_by (Function c.args.from c.args.to)) ≡ None =
    grind (arith, outs-Function c.args.from c.args.to, c.in_ok-check_all.ensures) in
    becomes_either (IsBuilt declared_by) c.make.result s _ _ c.make.ensures.state built
    (built_interned declared_by _ s c.number-number.ensures.state
    (Function c.args.from c.args.to) built (each_read s _ free))
