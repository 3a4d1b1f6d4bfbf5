use Rattle.std.proofs.Common.{sym, arith}
use Rattle.ra_ap_intern.specs.Handle.{ref_name}
use Rattle.ra_ap_intern.proofs.CallerLemmas.{end_none, end_up, steps_fewer}
use Rattle.use_paths.specs.Paths.{declared_by, last_of, parent_of}
use Rattle.use_paths.proofs.Opened.{declares}
use Rattle.use_paths.proofs.first_name.Goals as goal

pub returns-in_err-get : goal.returns-in_err-get
returns-in_err-get c =
    let none = end_none parent_of last_of c.args.paths.now (ref_name c.args.path) in
    grind (arith, c.from_residual.ensures, c.in_err-get.ensures, none)

pub loop-above-init : goal.loop-above-init
loop-above-init c =
    rw (c.parts.ensures.parent, c.parts.ensures.name)
    (sym (end_up declared_by parent_of last_of declares c.args.paths.now c.requires
    _ _ (sym c.in_ok-get.ensures)))

pub returns-in_err-get-2 : goal.returns-in_err-get-2
returns-in_err-get-2 c =
    let none = end_none parent_of last_of c.args.paths.now (ref_name c.in-Some.above) in
    rw (← c.loop-above.invariant, ← c.get-in-loop-above.ensures, c.in-Some.is)
    (grind (arith, c.from_residual-in_err-get-2.ensures, c.in_err-get-2.ensures, none))

pub loop-above-smaller : goal.loop-above-smaller
loop-above-smaller c =
    rw (c.parts-in-Some.ensures.parent, ← c.get-in-loop-above.ensures, c.in-Some.is)
    (steps_fewer declared_by parent_of last_of declares c.args.paths.now c.requires
    _ _ (sym c.in_ok-get-2.ensures))

pub loop-above-preserved : goal.loop-above-preserved
loop-above-preserved c =
    rw (
      ← c.loop-above.invariant,
      ← c.get-in-loop-above.ensures,
      c.in-Some.is,
      c.parts-in-Some.ensures.parent,
      c.parts-in-Some.ensures.name,
    )
    (sym (end_up declared_by parent_of last_of declares c.args.paths.now c.requires
    _ _ (sym c.in_ok-get-2.ensures)))
