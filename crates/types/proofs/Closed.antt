-- Types without variables.
use Rattle.std.proofs.Common.{◌≡◌, ◌↔◌, inl, inr, Bool, true, false, Result, Ok, Err, IfOk, OnErr, List, [], ◌∷◌, Some, refl, sym, subst}
use Rattle.std.specs.Bool.{MatchBool}
use Rattle.std.specs.List.{list_any}
use Rattle.std.specs.List.Sorted.{IsPermutation}
use Rattle.ra_ap_intern.specs.Handle.{ref_name}
use Rattle.ra_ap_intern.specs.Interning.{ReadsOn}
use Rattle.ra_ap_intern.specs.Name.{Name}
use Rattle.ra_ap_intern.specs.State.{State}
use Rattle.ra_ap_intern.specs.Tree.{tree, no_more, one_more}
use Rattle.types.specs.Tree.{IsNoVariable, StandsClosed}
use Rattle.types.specs.Types.{Kind, function, pair, declared_by, kind_of, shape_at}
use Rattle.types.specs.Unifying.{two}
use Rattle.types.specs.declared.value.TypeNode.{TypeNode}
use Rattle.ra_ap_intern.proofs.CallerLemmas.{tree_on}
use Rattle.types.proofs.Pairs.{Handle}
use Rattle.types.proofs.Searching.{listed_before}
use Rattle.types.proofs.Sets.{Each, inserted}
use Rattle.types.proofs.Trees.{unfolds}

abbrev pub AreClosed : State TypeNode → List Handle → Type 0
AreClosed s = Each (λ p. StandsClosed s (ref_name p))

pub closed_on : (s t : State TypeNode) → ReadsOn s t → (xs : List Handle) → AreClosed s xs → AreClosed t xs
closed_on s t on xs each p in' =
    let here = each p in' in
    (here.0, tree_on declared_by kind_of s t on here.0 (ref_name p) here.1, here.2)

module _ (s : State TypeNode) where
  pub leaf_closed : (n : Name) (kind : Kind) → shape_at s n ≡ Some (kind, []) → IsNoVariable kind → StandsClosed s n
  leaf_closed n kind at is = (tree kind no_more, unfolds s n kind [] no_more at tt, (is, tt))

  pub two_closed : (n a b : Name) (kind : Bool) → shape_at s n ≡ Some (two kind a b) → StandsClosed s a
      → StandsClosed s b → StandsClosed s n
  two_closed n a b true at x y =
      let parts = one_more x.0 (one_more y.0 no_more) in
      (tree function parts, unfolds s n function (a ∷ b ∷ []) parts at (x.1, (y.1, tt)), (tt, (x.2, (y.2, tt))))
  two_closed n a b false at x y =
      let parts = one_more x.0 (one_more y.0 no_more) in
      (tree pair parts, unfolds s n pair (a ∷ b ∷ []) parts at (x.1, (y.1, tt)), (tt, (x.2, (y.2, tt))))

  -- what is found among them is closed
  pub found_closed : (xs : List Handle) (eq : Handle → Handle → Bool)
      → ((a b : Handle) → (eq a b ≡ true) ↔ (ref_name a ≡ ref_name b)) → AreClosed s xs → (p : Handle)
      → list_any (eq p) xs ≡ true → StandsClosed s (ref_name p)
  found_closed xs eq names each p found =
      let here = listed_before xs eq names p found in
      subst (StandsClosed s) here.2 (each here.0 here.1)

  -- where one more is put among them, if it is
  pub put_closed : {E : Type 0} (old new : List Handle) (p : Handle) (r : Result Bool E)
      → IfOk r (λ added. MatchBool added (IsPermutation (p ∷ old) new) (new ≡ old)) → OnErr r (new ≡ old)
      → AreClosed s old → StandsClosed s (ref_name p) → AreClosed s new
  put_closed old new p (Ok true) put err each is = λ q in'. elim ((inserted old new p true refl put).cases q in') [
    | inl earlier ↦ each q earlier
    | inr same ↦ subst (λ h. StandsClosed s (ref_name h)) same is
  ]
  put_closed old new p (Ok false) put err each is = subst (AreClosed s) (sym put) each
  put_closed old new p (Err e) put err each is = subst (AreClosed s) (sym err) each
