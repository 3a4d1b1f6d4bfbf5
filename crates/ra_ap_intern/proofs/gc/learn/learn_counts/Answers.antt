use Rattle.std.proofs.Common.{◌≡◌, ◌&&◌, None, ℕ, List, [], ◌∷◌, ◌++◌, nat_eq, refl, sym, ap, subst, ◌∙◌}
use Rattle.std.specs.Prelude.{map as list_map}
use Rattle.std.specs.FinMap.{get}
use Rattle.std.specs.List.{IsDistinct}
use Rattle.std.specs.Map.{keys_of}
use Rattle.std.proofs.lemmas.List.{append-nil, append_assoc, map-append}
use Rattle.intern_marks.specs.Learning.{Learns}
use Rattle.intern_marks.specs.Marks.{added}
use Rattle.intern_marks.specs.Reach.{is_counted}
use Rattle.intern_store.specs.declared.names.Name.{Name}
use Rattle.intern_store.specs.declared.names.Spot.{Spot}
use Rattle.ra_ap_intern.specs.Families.{counted_entries}
use Rattle.ra_ap_intern.proofs.Registering.{learns_none, next_is_new, next_learnt}
use Rattle.ra_ap_intern.proofs.gc.learn.learn_counts.Goals as goal
use Rattle.ra_ap_intern.proofs.gc.learn.learn_counts.Goals.{In-Some, then-roots, else-roots}
use Rattle.ra_ap_intern.proofs.gc.learn.learn_counts.Given.{Over}

-- what was yielded, as births with their counts
abbrev past : List (Spot × ℕ) → List (ℕ × ℕ)
past ys = list_map (λ e. (e.0.birth, e.1)) ys

pub loop-spot-init : goal.loop-spot-init
loop-spot-init g c = record {
  learnt = learns_none c.args.roots c.args.marks.now;
  left = c.into_iter-spot-iterator.ensures.into_iter_gives;
}

-- the entry that is yielded
module _ (g : Over) (c : In-Some g) where
  abbrev name : Name
  name = record { storage = c.args.number; birth = c.in-Some.spot.birth }

  all : past c.loop-spot.yielded ++ (c.in-Some.spot.birth, c.in-Some.count) ∷ c.next.new.self ≡ c.args.counts
  all = ap (λ rest. past c.loop-spot.yielded ++ rest) (sym c.in-Some.ensures.steps) ∙ c.loop-spot.invariant.left

  distinct : IsDistinct nat_eq (keys_of (past c.loop-spot.yielded ++ (c.in-Some.spot.birth, c.in-Some.count) ∷ c.next.new.self))
  distinct = subst (λ es. IsDistinct nat_eq (keys_of es)) (sym all) c.requires.distinct

  new : get c.loop-spot.marks.registered name ≡ None
  new =
      next_is_new c.args.roots c.args.number (past c.loop-spot.yielded) c.next.new.self (c.in-Some.spot.birth, c.in-Some.count) distinct
      c.args.marks.now c.loop-spot.marks c.loop-spot.invariant.learnt (c.requires.new name refl)

  learnt : Learns c.args.roots (counted_entries c.args.number (past c.loop-spot.yielded ++ (c.in-Some.spot.birth, c.in-Some.count) ∷ []))
      c.args.marks.now (added c.loop-spot.marks name (is_counted c.in-Some.count) (c.args.roots && is_counted c.in-Some.count))
  learnt =
      next_learnt c.args.roots c.args.number (past c.loop-spot.yielded) c.next.new.self (c.in-Some.spot.birth, c.in-Some.count) distinct
      c.args.marks.now c.loop-spot.marks c.loop-spot.invariant.learnt new

pub add-requires : goal.add-requires
add-requires g c = new g (goal.at.add-requires g c).In-Some

pub loop-spot-preserved : goal.loop-spot-preserved
loop-spot-preserved g c =
    let here = (goal.at.loop-spot-preserved g c).In-Some in
    let longer = map-append (λ (e : Spot × ℕ). (e.0.birth, e.1)) c.loop-spot.yielded ((c.in-Some.spot, c.in-Some.count) ∷ []) in
    let counted = is_counted c.in-Some.count in
    let is_root : c.if-roots.flags ≡ (c.args.roots && counted) =
    elim c.if-roots.branch [
      | then-roots w ↦ w.flags-is ∙ (λ i. sym w.if-roots.true i && counted)
      | else-roots w ↦ w.flags-is ∙ w.if-roots.false ∙ (λ i. sym w.if-roots.false i && counted)
    ] in
    let now = c.in_ok-add.ensures.ok ∙ ap (added c.loop-spot.marks (name g here) counted) is_root in
    record {
      learnt =
          subst (λ counts. Learns c.args.roots (counted_entries c.args.number counts) c.args.marks.now c.add.new.self) (sym longer)
          (subst (λ m. Learns c.args.roots (counted_entries c.args.number (past c.loop-spot.yielded ++ (c.in-Some.spot.birth, c.in-Some.count) ∷ [])) c.args.marks.now m)
          (sym now) (learnt g here));
      left = ap (λ es. es ++ c.next.new.self) longer ∙ append_assoc (past c.loop-spot.yielded) _ c.next.new.self ∙ all g here;
    }

pub returns : goal.returns
returns g c =
    let all = sym (append-nil (past c.loop-spot.yielded)) ∙ ap (λ rest. past c.loop-spot.yielded ++ rest) (sym c.in-None.ensures.steps.0) ∙ c.loop-spot.invariant.left in
    subst (λ counts. Learns c.args.roots (counted_entries c.args.number counts) c.args.marks.now c.loop-spot.marks) all c.loop-spot.invariant.learnt
