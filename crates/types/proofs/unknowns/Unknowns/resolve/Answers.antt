use Rattle.std.proofs.Common.{◌≡◌, ◌-◌, ◌+◌, length, refl, subst, arith}
use Rattle.std.proofs.lemmas.List.{length-map}
use Rattle.ra_ap_intern.specs.Handle.{ref_name}
use Rattle.types.specs.Founded.{Ends, known_type, known_types}
use Rattle.types.proofs.Founded.{ends_all, ends_next, ends_none, free_resolved, known_is, leaf_resolved}
use Rattle.types.proofs.Unifying.{agree_same, agree_then, agree_known}
use Rattle.types.proofs.unknowns.Unknowns.resolve.Goals as goal

pub loop-init : goal.loop-init
loop-init c =
    let s = c.args.types.now in
    let all = known_types c.args.self.now in
    record {
      agrees = λ v solves. agree_same s v _ _ refl;
      ends = λ founded number at. subst (λ k. Ends s all k number) (omega arith) (ends_all s all founded number);
      over = λ founded over. over;
    }

pub loop-preserved : goal.loop-preserved
loop-preserved c =
    let s = c.args.types.now in
    let u = c.args.self.now in
    let all = known_types u in
    let handle = ref_name c.loop.handle in
    let number = c.in-Some.number in
    let next = c.in-Some-known_as.next in
    let at = c.in-Some.ensures.number in
    let is = c.in-Some-known_as.ensures.known in
    let known = (known_is u.known.items number next).1 is in
    let many : length all ≡ length u.known.items = length-map u.known.items known_type in
    record {
      agrees = λ v solves. agree_then s v (ref_name c.args.handle) handle (ref_name next)
          (c.loop.invariant.agrees v solves) (agree_known s v u solves number handle next at is);
      ends = λ founded after shape. ends_next s all (length all - c.loop.counter) (length all - (c.loop.counter + 1))
          number after next (omega (arith, many)) (c.loop.invariant.ends founded number at) known shape;
      over = λ founded over. founded.over number next known;
    }

pub returns-in_default-clause-resolved : goal.returns-in_default-clause-resolved
returns-in_default-clause-resolved c founded =
    leaf_resolved c.args.types.now (known_types c.args.self.now) (ref_name c.loop.handle) c.in_default.ensures.none

pub returns-in_default-known_as-clause-resolved : goal.returns-in_default-known_as-clause-resolved
returns-in_default-known_as-clause-resolved c founded =
    free_resolved c.args.types.now c.args.self.now (ref_name c.loop.handle) c.in-Some.number c.in-Some.ensures.number
    c.in_default-known_as.ensures.none

pub returns-clause-resolved : goal.returns-clause-resolved
returns-clause-resolved c founded number h at =
    let s = c.args.types.now in
    let u = c.args.self.now in
    let all = known_types u in
    let many : length all ≡ length u.known.items = length-map u.known.items known_type in
    ends_none s all (length all - c.loop.counter) number (omega (arith, many)) (c.loop.invariant.ends founded number at) h
