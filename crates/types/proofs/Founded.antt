-- Unknown types stay founded.
use Rattle.std.proofs.Common.{◌≡◌, ◌↔◌, ◌⊎◌, inl, inr, ℕ, zero, suc, ◌<◌, ◌≤◌, Bool, cond, List, [], ◌∷◌, ◌++◌, length, get_or, map, Option, Some, None, is_some, slice_get, slice_set, sym, ap, subst, ◌∙◌, refl, arith}
use Rattle.std.specs.List.{count_by, sum_by}
use Rattle.std.proofs.lemmas.List.{length-append, length-set, map-set}
use Rattle.std.proofs.lemmas.List.Sums.{count_by-le-length, sum_by-append, sum_by-set}
use Rattle.std.proofs.lemmas.Option.{get_or_from_slice_get, same_Some, slice_get_within}
use Rattle.ra_ap_intern.specs.Handle.{ref_name}
use Rattle.ra_ap_intern.specs.Name.{Name}
use Rattle.ra_ap_intern.specs.State.{State}
use Rattle.ra_ap_intern.specs.Tree.{Trees, tree, no_more, one_more}
use Rattle.types.specs.Founded.{known_type, known_types, AreResolved, Ends, IsOver, IsResolved, IsFounded, StaysFounded}
use Rattle.types.specs.Tree.{Tree, Occurs, UnfoldsTo}
use Rattle.types.specs.Types.{Kind, Shape, unknown, shape_at, unknown_shape}
use Rattle.types.specs.Unifying.{IsFree, IsNoUnknown, IsOpen, either, two}
use Rattle.types.specs.declared.unknowns.Known.{Known}
use Rattle.types.specs.declared.unknowns.Known.TheVariants as known
use Rattle.types.specs.declared.unknowns.Unknowns.{Unknowns}
use Rattle.types.specs.declared.value.TypeNode.{TypeNode}
use Rattle.types.proofs.Pairs.{Handle}
use Rattle.types.proofs.Trees.{AllOf, unfolded, leaf_tree}

-- ---- what is known

pub known_is : (xs : List Known) (n : ℕ) (h : Handle)
    → (slice_get (map known_type xs) n ≡ Some (Some h)) ↔ (slice_get xs n ≡ Some (known.Is h))
known_is [] n h = (λ is. absurd (cc), λ is. absurd (cc))
known_is (known.Nothing l ∷ xs) zero h = (λ is. absurd (cc), λ is. absurd (cc))
known_is (known.Is g ∷ xs) zero h = (
  λ is. ap (λ x. Some (known.Is x)) (same_Some _ _ (same_Some _ _ is)),
  λ is. let same : g ≡ h = cc in ap (λ x. Some (Some x)) same,
)
known_is (k ∷ xs) (suc n) h = known_is xs n h

pub open_none : (xs : List Known) (n level : ℕ) → slice_get xs n ≡ Some (known.Nothing level)
    → slice_get (map known_type xs) n ≡ Some None
open_none [] n level is = absurd (cc)
open_none (k ∷ xs) zero level is = ap (λ x. Some (known_type x)) (same_Some _ _ is)
open_none (k ∷ xs) (suc n) level is = open_none xs n level is

open_if : (xs : List Known) (n : ℕ) → n < length (map known_type xs)
    → ((h : Handle) → slice_get (map known_type xs) n ≡ Some (Some h) → ⊥)
    → (level : ℕ) × (slice_get xs n ≡ Some (known.Nothing level))
open_if [] n lt free = absurd (omega (arith, lt))
open_if (known.Nothing level ∷ xs) zero lt free = (level, refl)
open_if (known.Is h ∷ xs) zero lt free = absurd (free h refl)
open_if (k ∷ xs) (suc n) lt free = open_if xs n (omega (arith, lt)) free

-- another level makes nothing known
pub level_set : (l : ℕ) (xs : List Known) (n x : ℕ) → slice_get xs n ≡ Some (known.Nothing x)
    → map known_type (slice_set xs n (known.Nothing l)) ≡ map known_type xs
level_set l [] n x is = absurd (cc)
level_set l (k ∷ xs) zero x is =
    let same : None ≡ known_type k = sym (ap known_type (same_Some _ _ is)) in
    λ i. same i ∷ map known_type xs
level_set l (k ∷ xs) (suc n) x is = λ i. known_type k ∷ level_set l xs n x is i

pub is_known_set : (h : Handle) (xs : List Known) (n : ℕ)
    → map known_type (slice_set xs n (known.Is h)) ≡ slice_set (map known_type xs) n (Some h)
is_known_set h xs n = map-set known_type xs n (known.Is h)

-- ---- what types are over

module _ (s : State TypeNode) where
  over_up : (ks ls : List (Option Handle)) (n : Name) → length ks ≤ length ls → IsOver s ks n → IsOver s ls n
  over_up ks ls n more over = (over.0, over.1, λ number occurs. let lt = over.2 number occurs in omega (arith, lt, more))

  module _ (ks : List (Option Handle)) where
    number_over : (n : Name) (number : ℕ) → shape_at s n ≡ Some (unknown_shape number) → IsOver s ks n
        → number < length ks
    number_over n number at over =
        over.2 number (subst (Occurs number) (sym (leaf_tree s n (unknown number) over.0 at over.1)) (inl refl))

    two_over : (a b : Name) (j : Kind) (ts : Trees Kind) → AllOf s (a ∷ b ∷ []) ts
        → ((number : ℕ) → Occurs number (tree j ts) → number < length ks) → IsOver s ks a × IsOver s ks b
    two_over a b j no_more all below = absurd all
    two_over a b j (one_more y no_more) all below = absurd all.1
    two_over a b j (one_more y (one_more z no_more)) all below = (
      (y, all.0, λ number h. below number (inr (inl h))),
      (z, all.1.0, λ number h. below number (inr (inr (inl h)))),
    )
    two_over a b j (one_more y (one_more z (one_more w ws))) all below = absurd all.1.1

    tree_over : (kind : Bool) (n a b : Name) → shape_at s n ≡ Some (two kind a b) → (t : Tree) → UnfoldsTo s n t
        → ((number : ℕ) → Occurs number t → number < length ks) → IsOver s ks a × IsOver s ks b
    tree_over kind n a b at (tree j ts) u below =
        two_over a b j ts (unfolded s n (either kind) (a ∷ b ∷ []) j ts at u).1 below

    -- the parts of a type are over what it is over
    pub parts_over : (kind : Bool) (n a b : Name) → shape_at s n ≡ Some (two kind a b) → IsOver s ks n
        → IsOver s ks a × IsOver s ks b
    parts_over kind n a b at over = tree_over kind n a b at over.0 over.1 over.2

-- a type that is no unknown one that is known, and is over these, is open where it is unknown
pub resolved_open : (s : State TypeNode) (u : Unknowns) (n : Name) (number : ℕ)
    → shape_at s n ≡ Some (unknown_shape number) → IsOver s (known_types u) n → IsResolved s (known_types u) n
    → IsOpen u number
resolved_open s u n number at over resolved =
    open_if u.known.items number (number_over s (known_types u) n number at over) (λ h is. resolved number h at is)

pub leaf_resolved : (s : State TypeNode) (ks : List (Option Handle)) (n : Name) → IsNoUnknown s n → IsResolved s ks n
leaf_resolved s ks n none number h at is = none number at

pub free_resolved : (s : State TypeNode) (u : Unknowns) (n : Name) (number : ℕ)
    → shape_at s n ≡ Some (unknown_shape number) → IsFree u number → IsResolved s (known_types u) n
free_resolved s u n number at free other h at_other is =
    let kinds : unknown other ≡ unknown number = ap (λ (x : Shape). x.0) (same_Some _ _ (sym at_other ∙ at)) in
    let same : other ≡ number = cc in
    free h (subst (λ m. slice_get u.known.items m ≡ Some (known.Is h)) same ((known_is u.known.items other h).0 is))

-- ---- known types in a row

module _ (s : State TypeNode) (ks : List (Option Handle)) where
  ends_up : (k m number : ℕ) → k ≤ m → Ends s ks k number → Ends s ks m number
  ends_up zero zero number less ends = ends
  ends_up zero (suc m) number less ends = λ h next at shape. absurd (ends h at)
  ends_up (suc k) zero number less ends = absurd (omega (arith, less))
  ends_up (suc k) (suc m) number less ends =
      λ h next at shape. ends_up k m next (omega (arith, less)) (ends h next at shape)

  pub ends_all : IsFounded s ks → (number : ℕ) → Ends s ks (length ks) number
  ends_all founded number =
      ends_up (count_by is_some ks) (length ks) number (count_by-le-length is_some ks) (founded.ends number)

  pub ends_next : (left now number next : ℕ) (h : Handle) → left ≡ suc now → Ends s ks left number
      → slice_get ks number ≡ Some (Some h) → shape_at s (ref_name h) ≡ Some (unknown_shape next)
      → Ends s ks now next
  ends_next left now number next h is ends at shape = subst (λ k. Ends s ks k number) is ends h next at shape

  pub ends_none : (left number : ℕ) → left ≡ 0 → Ends s ks left number
      → (h : Handle) → slice_get ks number ≡ Some (Some h) → ⊥
  ends_none left number is ends = subst (λ k. Ends s ks k number) is ends

set_cases : {X : Type 0} (xs : List X) (i n : ℕ) (x y : X) → slice_get (slice_set xs i y) n ≡ Some x
    → ((n ≡ i) × (y ≡ x)) ⊎ (slice_get xs n ≡ Some x)
set_cases [] i n x y is = absurd (cc)
set_cases (z ∷ zs) zero zero x y is = inl (refl, same_Some _ _ is)
set_cases (z ∷ zs) zero (suc n) x y is = inr is
set_cases (z ∷ zs) (suc i) zero x y is = inr is
set_cases (z ∷ zs) (suc i) (suc n) x y is = elim (set_cases zs i n x y is) [
  | inl same ↦ inl (ap suc same.0, same.1)
  | inr before ↦ inr before
]

count_set : (ks : List (Option Handle)) (i : ℕ) (h : Handle) → slice_get ks i ≡ Some None
    → count_by is_some (slice_set ks i (Some h)) ≡ suc (count_by is_some ks)
count_set ks i h none =
    let one : Option Handle → ℕ = λ o. cond (is_some o) 1 0 in
    let sums = sum_by-set one ks i (Some h) None (slice_get_within ks i None none) in
    let was : one (get_or ks i None) ≡ 0 = ap one (get_or_from_slice_get ks i None None none) in
    omega (arith, sums, was)

-- where nothing is known yet
pub founded_none : (s : State TypeNode) (xs : List Known) → xs ≡ [] → IsFounded s (map known_type xs)
founded_none s xs none = subst (λ ys. IsFounded s (map known_type ys)) (sym none) (record {
  ends = λ number h at. absurd (cc);
  over = λ number h at. absurd (cc);
})

-- one more of which nothing is known
module _ (s : State TypeNode) (ks : List (Option Handle)) where
  added_none : (xs : List (Option Handle)) (n : ℕ) (h : Handle) → slice_get (xs ++ None ∷ []) n ≡ Some (Some h)
      → slice_get xs n ≡ Some (Some h)
  added_none [] zero h is = absurd (cc)
  added_none [] (suc n) h is = absurd (cc)
  added_none (x ∷ xs) zero h is = is
  added_none (x ∷ xs) (suc n) h is = added_none xs n h is

  ends_added : (k number : ℕ) → Ends s ks k number → Ends s (ks ++ None ∷ []) k number
  ends_added zero number ends = λ h at. ends h (added_none ks number h at)
  ends_added (suc k) number ends =
      λ h next at shape. ends_added k next (ends h next (added_none ks number h at) shape)

  count_added : count_by is_some (ks ++ None ∷ []) ≡ count_by is_some ks
  count_added =
      let one : Option Handle → ℕ = λ o. cond (is_some o) 1 0 in
      let sums = sum_by-append one ks (None ∷ []) in
      let last : sum_by one (None ∷ []) ≡ 0 = refl in
      omega (arith, sums, last)

  pub founded_added : IsFounded s ks → IsFounded s (ks ++ None ∷ [])
  founded_added founded = record {
    ends = λ number. subst (λ k. Ends s (ks ++ None ∷ []) k number) (sym count_added)
        (ends_added _ number (founded.ends number));
    over = λ number h at. over_up s ks (ks ++ None ∷ []) (ref_name h) (omega (arith, length-append ks (None ∷ [])))
        (founded.over number h (added_none ks number h at));
  }

-- an unknown type becomes a type that is neither it nor another that is known
module _ (s : State TypeNode) (ks : List (Option Handle)) (i : ℕ) (h : Handle) (none : slice_get ks i ≡ Some None)
    (resolved : IsResolved s ks (ref_name h)) (other : shape_at s (ref_name h) ≡ Some (unknown_shape i) → ⊥) where
  abbrev after : List (Option Handle)
  after = slice_set ks i (Some h)

  free_after : (next : ℕ) → shape_at s (ref_name h) ≡ Some (unknown_shape next) → (g : Handle)
      → slice_get after next ≡ Some (Some g) → ⊥
  free_after next shape g at = elim (set_cases ks i next (Some g) (Some h) at) [
    | inl same ↦ other (subst (λ m. shape_at s (ref_name h) ≡ Some (unknown_shape m)) same.0 shape)
    | inr before ↦ resolved next g shape before
  ]

  ends_free : (k next : ℕ) → ((g : Handle) → slice_get after next ≡ Some (Some g) → ⊥) → Ends s after k next
  ends_free zero next free = free
  ends_free (suc k) next free = λ g m at shape. absurd (free g at)

  ends_here : (k next : ℕ) (g : Handle) → Some h ≡ Some g → shape_at s (ref_name g) ≡ Some (unknown_shape next)
      → Ends s after k next
  ends_here k next g same shape =
      ends_free k next (free_after next
      (subst (λ (x : Handle). shape_at s (ref_name x) ≡ Some (unknown_shape next)) (sym (same_Some _ _ same)) shape))

  ends_set : (k number : ℕ) → Ends s ks k number → Ends s after (suc k) number
  ends_set zero number ends = λ g next at shape. elim (set_cases ks i number (Some g) (Some h) at) [
    | inl same ↦ ends_here zero next g same.1 shape
    | inr before ↦ absurd (ends g before)
  ]
  ends_set (suc k) number ends = λ g next at shape. elim (set_cases ks i number (Some g) (Some h) at) [
    | inl same ↦ ends_here (suc k) next g same.1 shape
    | inr before ↦ ends_set k next (ends g next before shape)
  ]

  pub founded_set : IsFounded s ks → IsOver s ks (ref_name h) → StaysFounded s ks after
  founded_set founded over = (
    record {
      ends = λ number. subst (λ k. Ends s after k number) (sym (count_set ks i h none))
          (ends_set (count_by is_some ks) number (founded.ends number));
      over = λ number g at. over_up s ks after (ref_name g) (omega (arith, length-set ks i (Some h)))
          (elim (set_cases ks i number (Some g) (Some h) at) [
            | inl same ↦ subst (λ (x : Handle). IsOver s ks (ref_name x)) (same_Some _ _ same.1) over
            | inr before ↦ founded.over number g before
          ]);
    },
    length-set ks i (Some h),
  )

-- ---- one step of unification

pub are_swapped : (s : State TypeNode) (ks : List (Option Handle)) (n m : Name) → AreResolved s ks n m
    → AreResolved s ks m n
are_swapped s ks n m are = record {
  over = record { founded = are.over.founded; first = are.over.second; second = are.over.first };
  first = are.second;
  second = are.first;
}

-- a type that is over these, and no unknown type that is known
abbrev pub IsReady : State TypeNode → List (Option Handle) → Handle → Type 0
IsReady s ks p = IsOver s ks (ref_name p) × IsResolved s ks (ref_name p)

-- what is known is founded, and as many as before
abbrev pub IsSound : State TypeNode → Unknowns → Unknowns → Type 0
IsSound s old u = StaysFounded s (known_types old) (known_types u)

module _ (s : State TypeNode) (old u : Unknowns) (sound : IsSound s old u) where
  pub over_now : (n : Name) → IsOver s (known_types old) n → IsOver s (known_types u) n
  over_now n = over_up s (known_types old) (known_types u) n (omega (arith, sound.1))

  pub over_then : (n : Name) → IsOver s (known_types u) n → IsOver s (known_types old) n
  over_then n = over_up s (known_types u) (known_types old) n (omega (arith, sound.1))

  pub sound_next : (w : Unknowns) → IsSound s u w → IsSound s old w
  sound_next w next = (next.0, next.1 ∙ sound.1)
