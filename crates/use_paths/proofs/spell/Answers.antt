use Rattle.std.proofs.Common.{sym}
use Rattle.std.proofs.lemmas.List.{map-append}
use Rattle.ra_ap_intern.specs.Handle.{ref_name}
use Rattle.ra_ap_intern.proofs.CallerLemmas.{rest_begun, rest_none, rest_up, steps_fewer}
use Rattle.use_paths.specs.Paths.{declared_by, last_of, parent_of}
use Rattle.use_paths.proofs.Opened.{declares}
use Rattle.use_paths.proofs.spell.Goals as goal

pub returns-in_default-get : goal.returns-in_default-get
returns-in_default-get c =
    rw (
      ← rest_begun parent_of last_of c.args.paths.now (ref_name c.args.path),
      ← c.loop-next.invariant,
      c.in-Some.is,
    )
    (sym (rest_none parent_of last_of c.args.paths.now _ _ (sym c.in_default-get.ensures)))

pub loop-next-smaller : goal.loop-next-smaller
loop-next-smaller c =
    rw (c.get-next.ensures, c.parts.ensures.parent, c.in-Some.is)
    (steps_fewer declared_by parent_of last_of declares c.args.paths.now c.requires
    _ _ (sym c.in-Some-get.ensures))

pub loop-next-preserved : goal.loop-next-preserved
loop-next-preserved c =
    rw (
      ← c.loop-next.invariant,
      c.in_ok-push.ensures.items,
      map-append,
      c.parts.ensures.name,
      c.get-next.ensures,
      c.parts.ensures.parent,
      c.in-Some.is,
    )
    (sym (rest_up declared_by parent_of last_of declares c.args.paths.now c.requires
    _ _ _ (sym c.in-Some-get.ensures)))
