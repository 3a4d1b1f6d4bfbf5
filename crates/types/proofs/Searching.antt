-- A search for an unknown type among the parts of another.
use Rattle.std.proofs.Common.{◌≡◌, ◌≢◌, ◌↔◌, ◌⊎◌, inl, inr, ℕ, zero, suc, ◌<◌, Bool, true, false, List, [], ◌∷◌, ◌++◌, Some, Contains, refl, sym, ap, subst, ◌∙◌, arith}
use Rattle.std.specs.List.{list_any}
use Rattle.std.proofs.lemmas.List.Elements.{Contains-append_left, Contains-push, Contains-push_cases}
use Rattle.std.proofs.lemmas.List.Folds.{Any-from_list_any}
use Rattle.ra_ap_intern.specs.Handle.{ref_name}
use Rattle.ra_ap_intern.specs.Name.{Name}
use Rattle.ra_ap_intern.specs.State.{State}
use Rattle.ra_ap_intern.specs.Tree.{no_more}
use Rattle.types.specs.Tree.{Tree, unknowns, Occurs}
use Rattle.types.specs.Types.{Kind, unknown, shape_at, unknown_shape}
use Rattle.types.specs.Unifying.{placed, replaced, StandsFor, Agree, IsNoUnknown, IsOpen, IsPrincipal, two}
use Rattle.types.specs.declared.unknowns.Unknowns.{Unknowns}
use Rattle.types.specs.declared.value.TypeNode.{TypeNode}
use Rattle.types.proofs.Occurring.{AreWithin, IsWithin}
use Rattle.types.proofs.Pairs.{Handle, make, size, first_less, second_less, out}
use Rattle.types.proofs.Sets.{Inserted, each_one, each_popped}
use Rattle.types.proofs.Trees.{leaf_or_two, leaf_tree}
use Rattle.types.proofs.Unifying.{StillOpen, unknown_is}

-- a listed handle has this name
abbrev pub Listed : List Handle → Name → Type 0
Listed xs n = (p : Handle) × Contains xs p × (ref_name p ≡ n)

-- a handle that the set finds is listed
pub listed_before : (met : List Handle) (eq : Handle → Handle → Bool)
    → ((a b : Handle) → (eq a b ≡ true) ↔ (ref_name a ≡ ref_name b)) → (p : Handle)
    → list_any (eq p) met ≡ true → Listed met (ref_name p)
listed_before met eq names p found =
    let any = Any-from_list_any (eq p) met found in
    (any.1, (any.0, any.2, any.3), sym ((names p any.1).0 any.4))

occurs_cases : (number : ℕ) (kind : Bool) (t u : Tree) → Occurs number (make kind t u) → Occurs number t ⊎ Occurs number u
occurs_cases number true t u (inl none) = absurd none
occurs_cases number false t u (inl none) = absurd none
occurs_cases number kind t u (inr (inl first)) = inl first
occurs_cases number kind t u (inr (inr (inl second))) = inr second
occurs_cases number kind t u (inr (inr (inr none))) = absurd none

-- a leaf that isn't unknown has no unknown part
leaf_lacks : (v : ℕ → Tree) (number : ℕ) (kind : Kind) → ((x : ℕ) → kind ≡ unknown x → ⊥)
    → Occurs number (placed v kind no_more) → ⊥
leaf_lacks v number (unknown x) known h = known x refl
leaf_lacks v number kind known (inl none) = none
leaf_lacks v number kind known (inr none) = none

module _ (s : State TypeNode) (v : ℕ → Tree) (number : ℕ) where
  -- the unknown type is a part of the tree that a type is
  abbrev pub OccursIn : Name → Type 0
  OccursIn n = (t : Tree) × StandsFor s v n t × Occurs number t

  pub leaf_is_without : (n : Name) → IsNoUnknown s n → ((kind : Bool) (a b : Name) → shape_at s n ≢ Some (two kind a b))
      → OccursIn n → ⊥
  leaf_is_without n known none h = elim (leaf_or_two s n h.1.0 h.1.1) [
    | inl leaf ↦ leaf_lacks v number leaf.0 (λ x is. known x (leaf.1 ∙ ap (λ k. Some (k, [])) is))
        (subst (Occurs number) (h.1.2 ∙ ap (replaced v) (leaf_tree s n leaf.0 h.1.0 leaf.1 h.1.1)) h.2)
    | inr both ↦ none both.0 both.1 both.2 both.3
  ]

  pub other_is_without : (n : Name) (k : ℕ) → shape_at s n ≡ Some (unknown_shape k) → v k ≡ unknowns k → k ≢ number → OccursIn n → ⊥
  other_is_without n k at free other h = elim (subst (Occurs number) (unknown_is s v n k at h.0 h.1 ∙ free) h.2) [
    | inl is ↦ other is
    | inr none ↦ none
  ]

  -- a type is to be looked at, was, or lacks it
  abbrev pub Seen : (todo met : List Handle) → Name → Type 0
  Seen todo met n = Listed todo n ⊎ (Listed met n ⊎ (OccursIn n → ⊥))

  -- so is one that agrees with it
  abbrev pub SeenAs : (todo met : List Handle) → Name → Type 0
  SeenAs todo met n = (m : Name) × Agree s v n m × Seen todo met m

  pub record PartsSeen (todo met : List Handle) (n : Name) : Type 0 where
    pub kind : Bool
    pub first : Name
    pub second : Name
    pub at : shape_at s n ≡ Some (two kind first second)
    pub first_seen : SeenAs todo met first
    pub second_seen : SeenAs todo met second

  pub record IsSearched (handle : Name) (todo met : List Handle) : Type 0 where
    pub whole : Seen todo met handle
    pub each : (n : Name) → Listed met n → PartsSeen todo met n

  nowhere : (met : List Handle) → ((n : Name) → Listed met n → PartsSeen [] met n) → (limit : ℕ) (t : Tree) → size t < limit
      → (n : Name) → Seen [] met n → StandsFor s v n t → Occurs number t → ⊥
  nowhere met each zero t lt n seen stands occurs = absurd (omega (arith, lt))
  nowhere met each (suc limit) t lt n (inl todo) stands occurs = absurd (omega (arith, todo.1.1))
  nowhere met each (suc limit) t lt n (inr (inr none)) stands occurs = none (t, stands, occurs)
  nowhere met each (suc limit) t lt n (inr (inl in')) stands occurs =
      let p = each n in' in
      let o = out s v p.kind n p.first p.second p.at t stands in
      let sizes = ap size o.is in
      let one = first_less p.kind o.first o.second in
      let two = second_less p.kind o.first o.second in
      elim (occurs_cases number p.kind o.first o.second (subst (Occurs number) o.is occurs)) [
        | inl here ↦ nowhere met each limit o.first (omega (arith, lt, sizes, one)) p.first_seen.0 p.first_seen.2
            ((p.first_seen.1 o.first).0 o.first_is) here
        | inr here ↦ nowhere met each limit o.second (omega (arith, lt, sizes, two)) p.second_seen.0 p.second_seen.2
            ((p.second_seen.1 o.second).0 o.second_is) here
      ]

  pub searched : (handle : Name) (met : List Handle) → IsSearched handle [] met → OccursIn handle → ⊥
  searched handle met is h = nowhere met is.each (suc (size h.0)) h.0 (omega arith) handle is.whole h.1 h.2

  module _ (handle : Name) (all rest met : List Handle) (p : Handle) (last : all ≡ rest ++ p ∷ [])
      (before : IsSearched handle all met) where
    is : IsSearched handle (rest ++ p ∷ []) met
    is = subst (λ xs. IsSearched handle xs met) last before

    -- the last gives way to others
    module _ (todo now : List Handle) (keeps : (q : Handle) → Contains rest q → Contains todo q)
        (met_keeps : (q : Handle) → Contains met q → Contains now q) (here : Seen todo now (ref_name p)) where
      on : (n : Name) → Seen (rest ++ p ∷ []) met n → Seen todo now n
      on n (inl l) = elim (Contains-push_cases rest p l.0 l.1) [
        | inl earlier ↦ inl (l.0, keeps l.0 earlier, l.2)
        | inr same ↦ subst (Seen todo now) (ap ref_name same ∙ l.2) here
      ]
      on n (inr (inl l)) = inr (inl (l.0, met_keeps l.0 l.1, l.2))
      on n (inr (inr none)) = inr (inr none)

      step : ((n : Name) → Listed now n → Listed met n ⊎ PartsSeen todo now n) → IsSearched handle todo now
      step cases = record {
        whole = on handle is.whole;
        each = λ n in'. elim (cases n in') [
          | inl earlier ↦ let q = is.each n earlier in record {
            kind = q.kind;
            first = q.first;
            second = q.second;
            at = q.at;
            first_seen = (q.first_seen.0, q.first_seen.1, on q.first_seen.0 q.first_seen.2);
            second_seen = (q.second_seen.0, q.second_seen.1, on q.second_seen.0 q.second_seen.2);
          }
          | inr parts ↦ parts
        ];
      }

    pub search_passed : Listed met (ref_name p) ⊎ (OccursIn (ref_name p) → ⊥) → IsSearched handle rest met
    search_passed here = step rest met (λ q in'. in') (λ q in'. in') (inr here) (λ n in'. inl in')

    -- its parts are to be looked at
    pub search_parted : (now : List Handle) (q r : Handle) (kind : Bool) (a b : Name) → Inserted met now p
        → shape_at s (ref_name p) ≡ Some (two kind a b) → Agree s v a (ref_name r) → Agree s v b (ref_name q)
        → IsSearched handle ((rest ++ q ∷ []) ++ r ∷ []) now
    search_parted now q r kind a b also at first second =
        step ((rest ++ q ∷ []) ++ r ∷ []) now
        (λ x in'. Contains-append_left (rest ++ q ∷ []) (r ∷ []) x (Contains-append_left rest (q ∷ []) x in'))
        also.keeps (inr (inl (p, also.here, refl))) (λ n in'. elim (also.cases in'.0 in'.1) [
          | inl earlier ↦ inl (in'.0, earlier, in'.2)
          | inr same ↦ inr (subst (PartsSeen ((rest ++ q ∷ []) ++ r ∷ []) now) (ap ref_name same ∙ in'.2) parts)
        ])
      where
        parts : PartsSeen ((rest ++ q ∷ []) ++ r ∷ []) now (ref_name p)
        parts = record {
          kind = kind;
          first = a;
          second = b;
          at = at;
          first_seen = (ref_name r, first, inl (r, Contains-push (rest ++ q ∷ []) r, refl));
          second_seen = (
            ref_name q,
            second,
            inl
                (q, Contains-append_left (rest ++ q ∷ []) (r ∷ []) q (Contains-push rest q), refl),
          );
        }

-- ---- what holds while an unknown type is looked for among the parts of another

abbrev pub Walked : (s : State TypeNode) (old : Unknowns) (number : ℕ) (handle : Name) (u : Unknowns) (todo met : List Handle)
    → Type 0
Walked s old number handle u todo met = StillOpen s old number u × AreWithin s old number handle todo
    × ((v : ℕ → Tree) → IsPrincipal s old v → IsSearched s v number handle todo met)

-- nothing was met yet
pub walked_begun : (s : State TypeNode) (old : Unknowns) (number : ℕ) (handle : Handle) → IsOpen old number
    → Walked s old number (ref_name handle) old (handle ∷ []) []
walked_begun s old number handle nothing = (
  record { solved = λ v. (λ h. h, λ h. h); open_here = nothing; free = λ n h. h },
  each_one (λ (p : Handle). IsWithin s old number (ref_name handle) (ref_name p)) handle (inl refl),
  λ v principal. record {
    whole = inl (handle, Contains-push [] handle, refl);
    each = λ n in'. absurd (omega (arith, in'.1.1));
  },
)

-- a part that was met, or lacks it, is passed over
pub walked_past : (s : State TypeNode) (old : Unknowns) (number : ℕ) (handle : Name) (u w : Unknowns)
    (all rest met : List Handle) (p : Handle) → all ≡ rest ++ p ∷ [] → Walked s old number handle u all met
    → StillOpen s old number w
    → ((v : ℕ → Tree) → IsPrincipal s old v → Listed met (ref_name p) ⊎ (OccursIn s v number (ref_name p) → ⊥))
    → Walked s old number handle w rest met
walked_past s old number handle u w all rest met p last before still here = (
  still,
  (each_popped (λ (q : Handle). IsWithin s old number handle (ref_name q)) all rest p last before.1).0,
  λ v principal. search_passed s v number handle all rest met p last (before.2 v principal) (here v principal),
)
