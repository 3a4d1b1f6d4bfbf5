use Rattle.std.proofs.Common.{◌≡◌, ◌∙◌, ◌∷◌, ◌++◌, [], length, refl, sym, ap, subst, rules, arith}
use Rattle.std.specs.Bool.{OnFalse, OnTrue}
use Rattle.std.proofs.lemmas.List.{length-append}
use Rattle.ra_ap_intern.specs.Handle.{ref_name}
use Rattle.types.specs.Founded.{IsOver, known_types}
use Rattle.types.specs.Unifying.{HasTree, IsNoUnknown, IsSolvable, Unifies}
use Rattle.types.proofs.Founded.{IsSound, parts_over, sound_next}
use Rattle.types.proofs.Unifying.{same_error}
use Rattle.types.proofs.Pairs.{Both}
use Rattle.types.proofs.Sets.{absent_if, found_if, inserted}
use Rattle.types.proofs.Solving.{parts_have_trees}
use Rattle.types.proofs.Underway.{Underway, begun, finished, passed_equal, passed_met, bound, parted, met_also, met_before, stuck, Standing, Sound, carried_begun, carried_passed, carried_last, carried_bound, carried_parted, tree_agreed, over_resolved, both_resolved}
use Rattle.types.proofs.Unmet.{unmet_pairs, fewer_pairs, less_pairs}
use Rattle.types.proofs.unify.unify.Goals as goal
use Rattle.types.proofs.unify.unify.Goals.{then-eq-via-then-eq, then-eq-via-else-eq+in_ok-insert+then-not-branch}

pub loop-first-init : goal.loop-first-init
loop-first-init c =
    let s = c.args.types.now in
    let old = c.args.unknowns.now in
    let left = ref_name c.args.left in
    let right = ref_name c.args.right in
    let p : Both = (c.args.left, c.args.right) in
    let items = c.in_ok-push.ensures.items ∙ ap (λ xs. xs ++ p ∷ []) c.new-open.ensures.items in
    record {
      underway = subst (λ ks. Underway s old left right old c.push.new.self.items ks) (sym c.new-met.ensures.empty)
          (subst (λ xs. Underway s old left right old xs []) (sym items) (begun s old left right p refl refl));
      standing = subst (Standing s old left right old) (sym items)
          (carried_begun (IsSolvable s) (HasTree s) old left right p refl refl);
      sound = λ start a b. subst (Sound s old left right old) (sym items)
          (carried_begun (IsSound s old) (IsOver s (known_types old)) old left right p refl refl) start a b;
    }

pub returns-clause-unifies : goal.returns-clause-unifies
returns-clause-unifies c =
    let left = ref_name c.args.left in
    let right = ref_name c.args.right in
    let none : c.loop-first.open.items ≡ [] = search rules in
    finished c.args.types.now c.args.unknowns.now left right c.loop-first.unknowns c.loop-first.met.keys
    (subst (λ xs. Underway c.args.types.now c.args.unknowns.now left right c.loop-first.unknowns xs c.loop-first.met.keys)
    none c.loop-first.invariant.underway)

pub returns-clause-solvable : goal.returns-clause-solvable
returns-clause-solvable c left right solvable = (c.loop-first.invariant.standing solvable left right).0

pub returns-clause-founded : goal.returns-clause-founded
returns-clause-founded c over = (c.loop-first.invariant.sound (over.founded, refl) over.first over.second).0

pub loop-first-preserved-then-eq : goal.loop-first-preserved-then-eq
loop-first-preserved-then-eq c =
    let s = c.args.types.now in
    let old = c.args.unknowns.now in
    let left = ref_name c.args.left in
    let right = ref_name c.args.right in
    let Here = Underway s old left right c.loop-first.unknowns in
    let q : Both = (c.resolve-first.result, c.resolve-second.result) in
    record {
      underway = elim c.then-eq.branch [
        | then-eq-via-then-eq w ↦
            subst (λ m. Here c.pop.new.self.items m.keys) (sym w.met-is)
            (passed_equal _ _ _ _ _ _ _ _ _ c.in-Some.ensures.items c.loop-first.invariant.underway _ _
            c.resolve-first.ensures.agrees c.resolve-second.ensures.agrees
            ((c.references_are_names.ensures.equal q.0 q.1).0 (sym c.eq.ensures ∙ w.if-eq.true)))
        | then-eq-via-else-eq+in_ok-insert+then-not-branch w ↦
            let same : w.insert.new.self.keys ≡ c.loop-first.met.keys =
            subst (λ t. OnFalse t (w.insert.new.self.keys ≡ c.loop-first.met.keys)) w.if-not-branch.true
            w.in_ok-insert.ensures.unchanged in
            subst (λ ks. Here c.pop.new.self.items ks) (sym (ap (λ m. m.keys) w.met-is ∙ same))
            (passed_met _ _ _ _ _ _ _ _ _ c.in-Some.ensures.items c.loop-first.invariant.underway _ _
            c.resolve-first.ensures.agrees c.resolve-second.ensures.agrees
            (met_before c.loop-first.met.keys _ c.references_are_names.ensures.equal q
            (found_if w.in_ok-insert.field-0 _ w.if-not-branch.true w.in_ok-insert.ensures.added)))
      ];
      standing = carried_passed (IsSolvable s) (HasTree s) old left right c.loop-first.unknowns
          _ _ _ c.in-Some.ensures.items c.loop-first.invariant.standing;
      sound = carried_passed (IsSound s old) (IsOver s (known_types old)) old left right c.loop-first.unknowns
          _ _ _ c.in-Some.ensures.items c.loop-first.invariant.sound;
    }

-- the pair is taken away
pub loop-first-smaller-then-eq : goal.loop-first-smaller-then-eq
loop-first-smaller-then-eq c =
    let s = c.args.types.now in
    let same : c.then-eq.met.keys ≡ c.loop-first.met.keys = elim c.then-eq.branch [
      | then-eq-via-then-eq w ↦ ap (λ m. m.keys) w.met-is
      | then-eq-via-else-eq+in_ok-insert+then-not-branch w ↦
          ap (λ m. m.keys) w.met-is
          ∙ subst (λ t. OnFalse t (w.insert.new.self.keys ≡ c.loop-first.met.keys)) w.if-not-branch.true
          w.in_ok-insert.ensures.unchanged
    ] in
    let met = ap (unmet_pairs s) same in
    let popped = ap length c.in-Some.ensures.items ∙ length-append c.pop.new.self.items _ in
    omega (arith, met, popped)

pub loop-first-preserved-then-branch : goal.loop-first-preserved-then-branch
loop-first-preserved-then-branch c =
    let s = c.args.types.now in
    let old = c.args.unknowns.now in
    let now = c.loop-first.unknowns in
    let left = ref_name c.args.left in
    let right = ref_name c.args.right in
    let first = ref_name c.resolve-first.result in
    let second = ref_name c.resolve-second.result in
    record {
      underway = bound _ _ _ _ _ _ _ _ _ c.in-Some.ensures.items c.loop-first.invariant.underway _ _
          c.resolve-first.ensures.agrees c.resolve-second.ensures.agrees c.insert.new.self.keys
          (met_also _ _ (c.resolve-first.result, c.resolve-second.result) _ c.if-not-branch.false c.in_ok-insert.ensures.keys)
          c.bind_one.new.unknowns
          (subst (λ t. OnTrue t (Unifies s now c.bind_one.new.unknowns first second)) c.if-branch.true
          c.in_ok-bind_one.ensures.bound);
      standing = carried_bound (IsSolvable s) (HasTree s) old left right now
          _ _ _ c.in-Some.ensures.items c.loop-first.invariant.standing first second
          (tree_agreed s now _ first c.resolve-first.ensures.agrees) (tree_agreed s now _ second c.resolve-second.ensures.agrees)
          c.bind_one.new.unknowns (λ solvable a b.
          subst (λ t. OnTrue t (HasTree s first → HasTree s second → IsSolvable s now
          → IsSolvable s c.bind_one.new.unknowns)) c.if-branch.true c.in_ok-bind_one.ensures.solvable a b solvable);
      sound = carried_bound (IsSound s old) (IsOver s (known_types old)) old left right now
          _ _ _ c.in-Some.ensures.items c.loop-first.invariant.sound first second
          (over_resolved s old now _ first c.resolve-first.ensures.over)
          (over_resolved s old now _ second c.resolve-second.ensures.over)
          c.bind_one.new.unknowns (λ sound a b.
          sound_next s old now sound c.bind_one.new.unknowns (c.in_ok-bind_one.ensures.founded
          (both_resolved s old now first second c.resolve-first.ensures.resolved c.resolve-second.ensures.resolved
          sound a b)));
    }

pub loop-first-smaller-then-branch : goal.loop-first-smaller-then-branch
loop-first-smaller-then-branch c =
    let p : Both = (c.resolve-first.result, c.resolve-second.result) in
    let met = less_pairs c.args.types.now c.loop-first.met.keys c.insert.new.self.keys p
    (inserted _ _ p _ c.if-not-branch.false c.in_ok-insert.ensures.keys) in
    let popped = ap length c.in-Some.ensures.items ∙ length-append c.pop.new.self.items _ in
    omega (arith, met, popped)

pub loop-first-preserved : goal.loop-first-preserved
loop-first-preserved c =
    let s = c.args.types.now in
    let old = c.args.unknowns.now in
    let was = c.loop-first.unknowns in
    let left = ref_name c.args.left in
    let right = ref_name c.args.right in
    let first = ref_name c.resolve-first.result in
    let second = ref_name c.resolve-second.result in
    let now = c.insert.new.self.keys in
    let firsts : Both = (c.in-Some-parts.a, c.in-Some-parts.c) in
    let seconds : Both = (c.in-Some-parts.b, c.in-Some-parts.d) in
    let same : c.bind_one.new.unknowns ≡ was =
    subst (λ t. OnFalse t (c.bind_one.new.unknowns ≡ was)) c.if-branch.false c.in_ok-bind_one.ensures.same in
    let items = c.in_ok-push-3.ensures.items ∙ ap (λ xs. xs ++ firsts ∷ []) c.in_ok-push-2.ensures.items in
    record {
      underway = subst (λ w. Underway s old left right w c.push-in-Some-2.new.self.items now) (sym same)
          (subst (λ xs. Underway s old left right was xs now) (sym items)
          (parted _ _ _ _ _ _ _ _ _ c.in-Some.ensures.items c.loop-first.invariant.underway _ _
          c.resolve-first.ensures.agrees c.resolve-second.ensures.agrees now
          (met_also _ _ (c.resolve-first.result, c.resolve-second.result) _ c.if-not-branch.false c.in_ok-insert.ensures.keys)
          seconds firsts c.in-Some-parts.ensures.parts));
      standing = subst (λ w. Standing s old left right w c.push-in-Some-2.new.self.items) (sym same)
          (subst (Standing s old left right was) (sym items)
          (carried_parted (IsSolvable s) (HasTree s) old left right was
          _ _ _ c.in-Some.ensures.items c.loop-first.invariant.standing first second
          (tree_agreed s was _ first c.resolve-first.ensures.agrees) (tree_agreed s was _ second c.resolve-second.ensures.agrees)
          s (parts_have_trees s) seconds firsts c.in-Some-parts.ensures.parts));
      sound = subst (λ w. Sound s old left right w c.push-in-Some-2.new.self.items) (sym same)
          (subst (Sound s old left right was) (sym items)
          (carried_parted (IsSound s old) (IsOver s (known_types old)) old left right was
          _ _ _ c.in-Some.ensures.items c.loop-first.invariant.sound first second
          (over_resolved s old was _ first c.resolve-first.ensures.over)
          (over_resolved s old was _ second c.resolve-second.ensures.over)
          s (parts_over s (known_types old)) seconds firsts c.in-Some-parts.ensures.parts));
    }

-- it is met for the first time, and two are put in its place
pub loop-first-smaller : goal.loop-first-smaller
loop-first-smaller c =
    let p : Both = (c.resolve-first.result, c.resolve-second.result) in
    let parts = c.in-Some-parts.ensures.parts in
    let met = fewer_pairs c.args.types.now _ c.references_are_names.ensures.equal c.loop-first.met.keys
    c.insert.new.self.keys p _ _ (inserted _ _ p _ c.if-not-branch.false c.in_ok-insert.ensures.keys)
    (absent_if c.in_ok-insert.field-0 _ c.if-not-branch.false c.in_ok-insert.ensures.added) parts.1 parts.2 in
    let popped = ap length c.in-Some.ensures.items ∙ length-append c.pop.new.self.items _ in
    let second = ap length c.in_ok-push-2.ensures.items ∙ length-append c.pop.new.self.items _ in
    let first = ap length c.in_ok-push-3.ensures.items ∙ length-append c.push-in-Some.new.self.items _ in
    omega (arith, met, popped, second, first)

pub returns-in_err-bind_one-clause-refused : goal.returns-in_err-bind_one-clause-refused
returns-in_err-bind_one-clause-refused c =
    same_error _ _ _ c.from_residual-in_err-bind_one.ensures.1 (λ conflict. stuck _ _ _ _ _ _ _ _ _
    c.in-Some.ensures.items c.loop-first.invariant.underway _ _ c.resolve-first.ensures.agrees
    c.resolve-second.ensures.agrees (c.in_err-bind_one.ensures.refused conflict))

pub returns-in_err-bind_one-clause-why : goal.returns-in_err-bind_one-clause-why
returns-in_err-bind_one-clause-why c over =
    let s = c.args.types.now in
    let old = c.args.unknowns.now in
    let now = c.loop-first.unknowns in
    let first = ref_name c.resolve-first.result in
    let second = ref_name c.resolve-second.result in
    let last = carried_last (IsSound s old) (IsOver s (known_types old)) old (ref_name c.args.left) (ref_name c.args.right)
    now _ _ _ c.in-Some.ensures.items c.loop-first.invariant.sound first second
    (over_resolved s old now _ first c.resolve-first.ensures.over)
    (over_resolved s old now _ second c.resolve-second.ensures.over)
    (over.founded, refl) over.first over.second in
    same_error _ _ _ c.from_residual-in_err-bind_one.ensures.1 (c.in_err-bind_one.ensures.why
    (both_resolved s old now first second c.resolve-first.ensures.resolved c.resolve-second.ensures.resolved
    last.0 last.1 last.2))

pub returns-in_default-parts-clause-refused : goal.returns-in_default-parts-clause-refused
returns-in_default-parts-clause-refused c _ =
    let first = ref_name c.resolve-first.result in
    let second = ref_name c.resolve-second.result in
    let known = subst (λ t. OnFalse t (IsNoUnknown c.args.types.now first × IsNoUnknown c.args.types.now second))
    c.if-branch.false c.in_ok-bind_one.ensures.none in
    stuck _ _ _ _ _ _ _ _ _ c.in-Some.ensures.items c.loop-first.invariant.underway _ _
    c.resolve-first.ensures.agrees c.resolve-second.ensures.agrees
    (λ v solves. c.in_default-parts.ensures.none (λ is.
    let same = (c.references_are_names.ensures.equal c.resolve-first.result c.resolve-second.result).1 is in
    let differ = sym c.eq.ensures ∙ c.if-eq.false in
    absurd (cc)) known.0 known.1 v)
