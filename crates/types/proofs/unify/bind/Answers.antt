use Rattle.std.proofs.Common.{◌≡◌, ◌∙◌, [], ◌∷◌, ◌++◌, length, slice_get, slice_set, Some, None, IsSome, inl, inr, refl, sym, ap, subst, rules, arith}
use Rattle.std.specs.Bool.{OnFalse}
use Rattle.std.proofs.lemmas.List.{length-append}
use Rattle.ra_ap_intern.specs.Handle.{ref_name}
use Rattle.types.specs.Founded.{IsFounded, IsOver, IsResolved, StaysFounded, known_types}
use Rattle.types.specs.Types.{shape_at, unknown_shape}
use Rattle.types.specs.Unifying.{replaced}
use Rattle.types.proofs.Founded.{IsReady, founded_set, open_none, parts_over, resolved_open}
use Rattle.types.proofs.Occurring.{AreWithin, IsWithin, parts_within, never}
use Rattle.types.proofs.Pairs.{Handle, same_name}
use Rattle.types.proofs.Searching.{IsSearched, Walked, walked_begun, walked_past, listed_before, searched, search_parted, leaf_is_without, other_is_without}
use Rattle.types.proofs.Sets.{Each, absent_if, each_one, each_popped, each_push, found_if, inserted}
use Rattle.types.proofs.Solving.{bound_is_solvable, open_is_free}
use Rattle.types.proofs.Unifying.{still_lowered, still_principal, wants_memory}
use Rattle.types.proofs.Unmet.{fewer_types}
use Rattle.types.proofs.unify.bind.Goals as goal

-- the unknown type is open
pub returns-in_default-clause-why : goal.returns-in_default-clause-why
returns-in_default-clause-why c are =
    let level = c.level.ensures.open.1 (resolved_open c.args.types.now c.args.unknowns.now (ref_name c.args.unknown.1)
    c.args.unknown.0 c.requires.unknown are.over.first are.first) in
    let none = subst IsSome c.in_default.is level in
    absurd (cc)

pub returns-clause-binds : goal.returns-clause-binds
returns-clause-binds c v =
    let bound = c.bind.ensures.binds c.args.types.now v in
    let still = c.loop-part.invariant.walked.0.solved v in
    (λ h. (still.0 (bound.0 h).0, (bound.0 h).1), λ h. bound.1 (still.1 h.0, h.1))

pub returns-clause-solvable : goal.returns-clause-solvable
returns-clause-solvable c t solvable =
    let s = c.args.types.now in
    let number = c.args.unknown.0 in
    let now = c.loop-part.unknowns in
    let still = c.loop-part.invariant.walked.0 in
    let v = solvable.0 in
    let none : c.loop-part.open.items ≡ [] = search rules in
    let searched_all = searched s v number (ref_name c.args.handle) c.loop-part.met.keys
    (subst (λ xs. IsSearched s v number (ref_name c.args.handle) xs c.loop-part.met.keys) none
    (c.loop-part.invariant.walked.2 v solvable.1)) in
    bound_is_solvable s now c.bind.new.self number (ref_name c.args.handle) v
    (still_principal s c.args.unknowns.now number now still v solvable.1) (open_is_free now number still.open_here)
    (c.bind.ensures.binds s) c.bind.ensures.free t
    (λ occurs. searched_all (replaced v t.0, (t.0, t.1, refl), occurs))

pub returns-clause-founded : goal.returns-clause-founded
returns-clause-founded c are =
    let s = c.args.types.now in
    let old = known_types c.args.unknowns.now in
    let number = c.args.unknown.0 in
    let handle = c.args.handle in
    let known = c.loop-part.invariant.known in
    let still = c.loop-part.invariant.walked.0 in
    let nothing = open_none c.loop-part.unknowns.known.items number still.open_here.0 still.open_here.1 in
    subst (StaysFounded s old) (sym (c.bind.ensures.known ∙ ap (λ ks. slice_set ks number (Some handle)) known))
    (founded_set s old number handle (subst (λ ks. slice_get ks number ≡ Some None) known nothing) are.second
    (λ at. c.requires.other (same_name s _ c.number-number.ensures.state c.types_are_their_shapes.ensures
    (unknown_shape number) (ref_name c.args.unknown.1) (ref_name handle) c.requires.unknown at))
    are.over.founded are.over.second)

pub returns-in_err-push-clause-refused : goal.returns-in_err-push-clause-refused
returns-in_err-push-clause-refused c = wants_memory _ _ c.from_residual.ensures.1

pub returns-in_err-insert-clause-refused : goal.returns-in_err-insert-clause-refused
returns-in_err-insert-clause-refused c = wants_memory _ _ c.from_residual-in_err-insert.ensures.1

pub returns-in_err-push-2-clause-refused : goal.returns-in_err-push-2-clause-refused
returns-in_err-push-2-clause-refused c = wants_memory _ _ c.from_residual-in_err-push-2.ensures.1

pub returns-in_err-push-3-clause-refused : goal.returns-in_err-push-3-clause-refused
returns-in_err-push-3-clause-refused c = wants_memory _ _ c.from_residual-in_err-push-3.ensures.1

pub returns-then-eq-clause-refused : goal.returns-then-eq-clause-refused
returns-then-eq-clause-refused c _ =
    let s = c.args.types.now in
    let old = c.args.unknowns.now in
    let number = c.args.unknown.0 in
    let handle = ref_name c.args.handle in
    let Within = IsWithin s old number handle in
    let popped = each_popped (λ (p : Handle). Within (ref_name p)) _ _ _ c.in-Some-pop.ensures.items
    c.loop-part.invariant.walked.1 in
    let same = (c.references_are_names.ensures.equal c.in-Some-pop.part c.args.unknown.1).0
    (sym c.eq.ensures ∙ c.if-eq.true) in
    never s old number handle (ref_name c.args.unknown.1) c.requires.unknown c.requires.other
    (subst Within same popped.1)

-- what is met is open
pub returns-then-not-lower-clause-why : goal.returns-then-not-lower-clause-why
returns-then-not-lower-clause-why c are =
    let s = c.args.types.now in
    let all = known_types c.args.unknowns.now in
    let part = c.in-Some-pop.part in
    let here = (each_popped (IsReady s all) _ _ _ c.in-Some-pop.ensures.items
    (c.loop-part.invariant.ready are.over.founded (are.over.second, are.second))).1 in
    let now = subst (λ ks. IsReady s ks part) (sym c.loop-part.invariant.known) here in
    let level = c.lower.ensures.nothing.1 (resolved_open s c.loop-part.unknowns (ref_name part) c.in-Some-number_of.other
    c.in-Some-number_of.ensures.number now.0 now.1) in
    absurd (cc)

pub loop-part-init : goal.loop-part-init
loop-part-init c =
    let s = c.args.types.now in
    let old = c.args.unknowns.now in
    let number = c.args.unknown.0 in
    let handle = c.args.handle in
    let Here = Walked s old number (ref_name handle) old in
    let items = c.in_ok-push.ensures.items ∙ ap (λ xs. xs ++ handle ∷ []) c.new-open.ensures.items in
    record {
      walked = subst (Here c.push.new.self.items) (sym c.new-met.ensures.empty)
          (subst (λ xs. Here xs []) (sym items)
          (walked_begun s old number handle (c.in-Some.level, c.in-Some.ensures.level)));
      known = refl;
      ready = λ founded is. subst (Each (IsReady s (known_types old))) (sym items)
          (each_one (IsReady s (known_types old)) handle is);
    }

pub loop-part-preserved-then-not-branch : goal.loop-part-preserved-then-not-branch
loop-part-preserved-then-not-branch c =
    let s = c.args.types.now in
    let all = known_types c.args.unknowns.now in
    let before = c.loop-part.invariant in
    let same : c.insert.new.self.keys ≡ c.loop-part.met.keys =
    subst (λ t. OnFalse t (c.insert.new.self.keys ≡ c.loop-part.met.keys)) c.if-not-branch.true c.in_ok-insert.ensures.unchanged in
    record {
      walked = subst (Walked s c.args.unknowns.now c.args.unknown.0 (ref_name c.args.handle) c.loop-part.unknowns c.pop.new.self.items)
          (sym same)
          (walked_past _ _ _ _ _ _ _ _ _ c.in-Some-pop.part c.in-Some-pop.ensures.items before.walked before.walked.0
          (λ v principal. inl (listed_before c.loop-part.met.keys _ c.references_are_names.ensures.equal c.in-Some-pop.part
          (found_if c.in_ok-insert.field-0 _ c.if-not-branch.true c.in_ok-insert.ensures.added))));
      known = before.known;
      ready = λ founded is. (each_popped (IsReady s all) _ _ _ c.in-Some-pop.ensures.items (before.ready founded is)).0;
    }

pub loop-part-preserved-in_default-parts_of : goal.loop-part-preserved-in_default-parts_of
loop-part-preserved-in_default-parts_of c =
    let s = c.args.types.now in
    let all = known_types c.args.unknowns.now in
    let before = c.loop-part.invariant in
    record {
      walked =
          walked_past _ _ _ _ _ _ _ _ _ c.in-Some-pop.part c.in-Some-pop.ensures.items before.walked before.walked.0
          (λ v principal. inr (leaf_is_without s v c.args.unknown.0 (ref_name c.in-Some-pop.part)
          c.in_default-number_of.ensures.none c.in_default-parts_of.ensures.none));
      known = before.known;
      ready = λ founded is. (each_popped (IsReady s all) _ _ _ c.in-Some-pop.ensures.items (before.ready founded is)).0;
    }

pub loop-part-preserved-in-Some-number_of : goal.loop-part-preserved-in-Some-number_of
loop-part-preserved-in-Some-number_of c =
    let s = c.args.types.now in
    let old = c.args.unknowns.now in
    let number = c.args.unknown.0 in
    let before = c.loop-part.invariant in
    let still = before.walked.0 in
    let part = ref_name c.in-Some-pop.part in
    let other = c.in-Some-number_of.other in
    let at = c.in-Some-number_of.ensures.number in
    let lowered = still_lowered s old number c.loop-part.unknowns c.lower.new.self still (c.lower.ensures.solved s)
    c.lower.ensures.open c.lower.ensures.free in
    record {
      walked = walked_past s old number (ref_name c.args.handle) _ c.lower.new.self _ _ _ c.in-Some-pop.part
          c.in-Some-pop.ensures.items before.walked lowered
          (λ v principal. inr (other_is_without s v number part other at
          (principal.free other (still.free other
          (open_is_free c.loop-part.unknowns other (c.lower.ensures.nothing.0 c.if-not-lower.false)))) (λ is.
          let name = same_name s _ c.number-number.ensures.state c.types_are_their_shapes.ensures (unknown_shape number) part
          (ref_name c.args.unknown.1) (subst (λ k. shape_at s part ≡ Some (unknown_shape k)) is at) c.requires.unknown in
          let same = (c.references_are_names.ensures.equal c.in-Some-pop.part c.args.unknown.1).1 name in
          let differ = sym c.eq.ensures ∙ c.if-eq.false in
          absurd (cc))));
      known = c.lower.ensures.known ∙ before.known;
      ready = λ founded is. (each_popped (IsReady s (known_types old)) _ _ _ c.in-Some-pop.ensures.items (before.ready founded is)).0;
    }

pub loop-part-preserved : goal.loop-part-preserved
loop-part-preserved c =
    let s = c.args.types.now in
    let old = c.args.unknowns.now in
    let all = known_types old in
    let number = c.args.unknown.0 in
    let handle = ref_name c.args.handle in
    let before = c.loop-part.invariant in
    let still = before.walked.0 in
    let first = c.resolve-in-Some-pop.result in
    let second = c.resolve.result in
    let popped = each_popped (λ (p : Handle). IsWithin s old number handle (ref_name p)) _ _ _ c.in-Some-pop.ensures.items
    before.walked.1 in
    let at = c.in-Some-parts_of.ensures.parts in
    let within = parts_within s old number handle _ _ _ _ at popped.1 (ref_name first) (ref_name second)
    (λ v solves. (c.resolve-in-Some-pop.ensures.agrees v ((still.solved v).1 solves), c.resolve.ensures.agrees v ((still.solved v).1 solves))) in
    let items = c.in_ok-push-3.ensures.items ∙ ap (λ xs. xs ++ first ∷ []) c.in_ok-push-2.ensures.items in
    record {
      walked = (
        still,
        subst (AreWithin s old number handle) (sym items)
            (each_push (λ (p : Handle). IsWithin s old number handle (ref_name p)) (c.pop.new.self.items ++ second ∷ []) first
            (each_push (λ (p : Handle). IsWithin s old number handle (ref_name p)) c.pop.new.self.items second popped.0 within.1)
            within.0),
        λ v principal. subst (λ xs. IsSearched s v number handle xs c.insert.new.self.keys) (sym items)
            (search_parted s v number handle _ _ _ c.in-Some-pop.part c.in-Some-pop.ensures.items
            (before.walked.2 v principal) c.insert.new.self.keys second first _ _ _
            (inserted c.loop-part.met.keys c.insert.new.self.keys c.in-Some-pop.part _ c.if-not-branch.false
            c.in_ok-insert.ensures.keys) at
            (c.resolve-in-Some-pop.ensures.agrees v ((still.solved v).1 principal.solves))
            (c.resolve.ensures.agrees v ((still.solved v).1 principal.solves))),
      );
      known = before.known;
      ready = λ founded is.
          let here = each_popped (IsReady s all) _ _ _ c.in-Some-pop.ensures.items (before.ready founded is) in
          let parts = parts_over s all _ (ref_name c.in-Some-pop.part) _ _ at here.1.0 in
          let one : IsReady s all first = (
            subst (λ ks. IsFounded s ks → IsOver s ks (ref_name c.in-Some-parts_of.first) → IsOver s ks (ref_name first))
                before.known c.resolve-in-Some-pop.ensures.over founded parts.0,
            subst (λ ks. IsFounded s ks → IsResolved s ks (ref_name first)) before.known c.resolve-in-Some-pop.ensures.resolved founded,
          ) in
          let other : IsReady s all second = (
            subst (λ ks. IsFounded s ks → IsOver s ks (ref_name c.in-Some-parts_of.second) → IsOver s ks (ref_name second))
                before.known c.resolve.ensures.over founded parts.1,
            subst (λ ks. IsFounded s ks → IsResolved s ks (ref_name second)) before.known c.resolve.ensures.resolved founded,
          ) in
          subst (Each (IsReady s all)) (sym items)
          (each_push (IsReady s all) (c.pop.new.self.items ++ second ∷ []) first
          (each_push (IsReady s all) c.pop.new.self.items second here.0 other) one);
    }

pub loop-part-smaller : goal.loop-part-smaller
loop-part-smaller c =
    let met = fewer_types c.args.types.now _ c.references_are_names.ensures.equal c.loop-part.met.keys
    c.insert.new.self.keys c.in-Some-pop.part _
    (inserted c.loop-part.met.keys c.insert.new.self.keys c.in-Some-pop.part _ c.if-not-branch.false c.in_ok-insert.ensures.keys)
    (absent_if c.in_ok-insert.field-0 _ c.if-not-branch.false c.in_ok-insert.ensures.added)
    c.in-Some-parts_of.ensures.parts in
    let popped = ap length c.in-Some-pop.ensures.items ∙ length-append c.pop.new.self.items _ in
    let second = ap length c.in_ok-push-2.ensures.items ∙ length-append c.pop.new.self.items _ in
    let first = ap length c.in_ok-push-3.ensures.items ∙ length-append c.push-in-Some-pop.new.self.items _ in
    omega (arith, met, popped, second, first)
