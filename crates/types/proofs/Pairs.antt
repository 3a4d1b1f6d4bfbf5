-- Pairs of types on the way to one another.
use Rattle.std.proofs.Common.{◌≡◌, ◌≢◌, ◌↔◌, ◌⊎◌, inl, inr, ℕ, zero, suc, ◌+◌, ◌<◌, Bool, true, false, List, [], ◌∷◌, ◌++◌, Some, Contains, refl, sym, ap, subst, ◌∙◌, arith}
use Rattle.std.proofs.Math.Bool.{beq, not}
use Rattle.std.proofs.lemmas.Option.{same_Some}
use Rattle.std.proofs.lemmas.List.Elements.{Contains-append_left, Contains-push, Contains-push_cases}
use Rattle.ra_ap_intern.specs.Handle.{ref_name}
use Rattle.ra_ap_intern.specs.Name.{Name}
use Rattle.ra_ap_intern.specs.State.{State, IsState}
use Rattle.ra_ap_intern.specs.declared.kind.Values.{Values}
use Rattle.ra_ap_intern.specs.declared.storage.Ref.{Ref}
use Rattle.ra_ap_intern.specs.Tree.{Trees, tree, no_more, one_more}
use Rattle.types.specs.Tree.{Tree, UnfoldsTo}
use Rattle.types.specs.Types.{Kind, Shape, shape, shape_at}
use Rattle.ra_ap_intern.proofs.CallerLemmas.{names_tell_views}
use Rattle.types.specs.Unifying.{replaced, all_replaced, placed, StandsFor, AreOne, Agree, HaveParts, IsNoUnknown, either, two}
use Rattle.types.specs.declared.value.TypeNode.{TypeNode}
use Rattle.types.proofs.Trees.{AllOf, IsLeaf, unfolds, unfolded, leaf_tree, leaf_or_two, known_stays, two_stays}

abbrev pub Handle : Type 0
Handle = Ref (Values TypeNode)

abbrev pub Both : Type 0
Both = Handle × Handle

-- a listed pair has these names
abbrev pub Among : List Both → Name → Name → Type 0
Among xs a c = (p : Both) × Contains xs p × (ref_name p.0 ≡ a) × (ref_name p.1 ≡ c)

pub among_left : (xs ys : List Both) (a c : Name) → Among xs a c → Among (xs ++ ys) a c
among_left xs ys a c h = (h.0, Contains-append_left xs ys h.0 h.1, h.2, h.3)

pub among_last : (xs : List Both) (p : Both) → Among (xs ++ p ∷ []) (ref_name p.0) (ref_name p.1)
among_last xs p = (p, Contains-push xs p, refl, refl)

pub among_cases : (xs : List Both) (p : Both) (a c : Name) → Among (xs ++ p ∷ []) a c
    → Among xs a c ⊎ ((ref_name p.0 ≡ a) × (ref_name p.1 ≡ c))
among_cases xs p a c h = elim (Contains-push_cases xs p h.0 h.1) [
  | inl in' ↦ inl (h.0, in', h.2, h.3)
  | inr is ↦ inr (ap (λ (q : Both). ref_name q.0) is ∙ h.2, ap (λ (q : Both). ref_name q.1) is ∙ h.3)
]

pub among_none : (a c : Name) → Among [] a c → ⊥
among_none a c h = absurd (omega (arith, h.1.1))

-- ---- functions and pairs, by their parts

abbrev pub make : Bool → Tree → Tree → Tree
make kind t u = tree (either kind) (one_more t (one_more u no_more))

abbrev mutual
  pub size : Tree → ℕ
  size (tree kind ts) = suc (sizes ts)

  pub sizes : Trees Kind → ℕ
  sizes no_more = 0
  sizes (one_more t ts) = size t + sizes ts

pub first_less : (kind : Bool) (t u : Tree) → size t < size (make kind t u)
first_less kind t u = omega arith

pub second_less : (kind : Bool) (t u : Tree) → size u < size (make kind t u)
second_less kind t u = omega arith

same_parts : (kind : Bool) (t u x y : Tree) → make kind t u ≡ make kind x y → (t ≡ x) × (u ≡ y)
same_parts kind t u x y is = (cc, cc)

one_kind : (k l : Bool) → either k ≡ either l → k ≡ l
one_kind true true is = refl
one_kind true false is = absurd (cc)
one_kind false true is = absurd (cc)
one_kind false false is = refl

module _ (s : State TypeNode) (v : ℕ → Tree) where
  into : (kind : Bool) (n a b : Name) → shape_at s n ≡ Some (two kind a b) → (t u : Tree)
      → StandsFor s v a t → StandsFor s v b u → StandsFor s v n (make kind t u)
  into kind n a b at t u g h =
      let trees : make kind t u ≡ make kind (replaced v g.0) (replaced v h.0) = λ i. make kind (g.2 i) (h.2 i) in (
        make kind g.0 h.0,
        unfolds s n (either kind) (a ∷ b ∷ []) (one_more g.0 (one_more h.0 no_more)) at (g.1, (h.1, tt)),
        trees ∙ sym (two_stays v kind (one_more (replaced v g.0) (one_more (replaced v h.0) no_more))),
      )

  pub record Out (kind : Bool) (a b : Name) (x : Tree) : Type 0 where
    pub first : Tree
    pub second : Tree
    pub is : x ≡ make kind first second
    pub first_is : StandsFor s v a first
    pub second_is : StandsFor s v b second

  module _ (kind : Bool) (n a b : Name) (at : shape_at s n ≡ Some (two kind a b)) (x : Tree) where
    out_of : (j : Kind) (ts : Trees Kind) → x ≡ placed v j (all_replaced v ts) → j ≡ either kind
        → AllOf s (a ∷ b ∷ []) ts → Out kind a b x
    out_of j no_more e same all = absurd all
    out_of j (one_more y no_more) e same all = absurd all.1
    out_of j (one_more y (one_more z no_more)) e same all = record {
      first = replaced v y;
      second = replaced v z;
      is = e ∙ ap (λ k. placed v k (all_replaced v (one_more y (one_more z no_more)))) same ∙ two_stays v kind _;
      first_is = (y, all.0, refl);
      second_is = (z, all.1.0, refl);
    }
    out_of j (one_more y (one_more z (one_more w ws))) e same all = absurd all.1.1

    out_tree : (t : Tree) → UnfoldsTo s n t → x ≡ replaced v t → Out kind a b x
    out_tree (tree j ts) u e =
        let here = unfolded s n (either kind) (a ∷ b ∷ []) j ts at u in
        out_of j ts e here.0 here.1

    pub out : StandsFor s v n x → Out kind a b x
    out h = out_tree h.0 h.1 h.2

  -- the one is this tree exactly if the other is
  abbrev AgreeAt : Tree → Name → Name → Type 0
  AgreeAt x n m = StandsFor s v n x ↔ StandsFor s v m x

  -- types of one kind agree where their parts do on what is smaller
  forth : (n m a b c d : Name) → HaveParts s n m a b c d → (x : Tree)
      → ((t : Tree) → size t < size x → AgreeAt t a c) → ((t : Tree) → size t < size x → AgreeAt t b d)
      → StandsFor s v n x → StandsFor s v m x
  forth n m a b c d parts x firsts seconds h =
      let o = out parts.0 n a b parts.1 x h in
      let sizes = ap size o.is in
      let one = first_less parts.0 o.first o.second in
      let two = second_less parts.0 o.first o.second in
      subst (StandsFor s v m) (sym o.is) (into parts.0 m c d parts.2 o.first o.second
      ((firsts o.first (omega (arith, sizes, one))).0 o.first_is)
      ((seconds o.second (omega (arith, sizes, two))).0 o.second_is))

  other_way : (x : Tree) (n m : Name) → AgreeAt x n m → AgreeAt x m n
  other_way x n m agree = (agree.1, agree.0)

  -- parts of types that are one tree are one tree each
  pub parts_are_one : (n m a b c d : Name) → HaveParts s n m a b c d → AreOne s v n m
      → AreOne s v a c × AreOne s v b d
  parts_are_one n m a b c d parts one =
      let o = out parts.0 n a b parts.1 one.0 one.1 in
      let p = out parts.0 m c d parts.2 one.0 one.2 in
      let same = same_parts parts.0 o.first o.second p.first p.second (sym o.is ∙ p.is) in (
        (o.first, o.first_is, subst (StandsFor s v c) (sym same.0) p.first_is),
        (o.second, o.second_is, subst (StandsFor s v d) (sym same.1) p.second_is),
      )

  module _ (met : List Both) where
    -- they agree if pairs that were met do
    abbrev pub Linked : Name → Name → Type 0
    Linked a c = Agree s v a c ⊎ ((x y : Name) × Among met x y × Agree s v a x × Agree s v c y)

    module _ (rest : List Both) where
      -- they do if these do too
      abbrev pub Covered : Name → Name → Type 0
      Covered a c = Among rest a c ⊎ Linked a c

      -- their parts do
      abbrev pub Justified : Name → Name → Type 0
      Justified x y = Agree s v x y ⊎ ((a b c d : Name) × HaveParts s x y a b c d × Covered a c × Covered b d)

      -- whatever is left, two types agree if it does
      pub record IsHeld (left right : Name) : Type 0 where
        pub whole : Covered left right
        pub each : (x y : Name) → Among met x y → Justified x y

    linked_at : (t : Tree) → ((x y : Name) → Among met x y → AgreeAt t x y) → (a c : Name) → Covered [] a c
        → AgreeAt t a c
    linked_at t all a c (inl in') = absurd (among_none a c in')
    linked_at t all a c (inr (inl agree)) = agree t
    linked_at t all a c (inr (inr l)) = (
      λ h. (l.4 t).1 ((all l.0 l.1 l.2).0 ((l.3 t).0 h)),
      λ h. (l.3 t).1 ((all l.0 l.1 l.2).1 ((l.4 t).0 h)),
    )

    justified_at : (t : Tree) (x y : Name) → ((u : Tree) → size u < size t → (a c : Name) → Covered [] a c → AgreeAt u a c)
        → Justified [] x y → AgreeAt t x y
    justified_at t x y all (inl agree) = agree t
    justified_at t x y all (inr j) =
        let firsts = λ (u : Tree) (less : size u < size t). all u less j.0 j.2 j.5 in
        let seconds = λ (u : Tree) (less : size u < size t). all u less j.1 j.3 j.6 in (
          forth x y j.0 j.1 j.2 j.3 j.4 t firsts seconds,
          forth y x j.2 j.3 j.0 j.1 (j.4.0, j.4.2, j.4.1) t
              (λ u less. other_way u j.0 j.2 (firsts u less)) (λ u less. other_way u j.1 j.3 (seconds u less)),
        )

    -- nothing is left, so pairs that were met agree
    met_agree : ((x y : Name) → Among met x y → Justified [] x y) → (limit : ℕ) (t : Tree) → size t < limit
        → (x y : Name) → Among met x y → AgreeAt t x y
    met_agree each zero t lt x y in' = absurd (omega (arith, lt))
    met_agree each (suc limit) t lt x y in' =
        justified_at t x y (λ u less. linked_at u (met_agree each limit u (omega (arith, lt, less)))) (each x y in')

    pub all_agree : (left right : Name) → IsHeld [] left right → Agree s v left right
    all_agree left right held t =
        linked_at t (met_agree held.each (suc (size t)) t (omega arith)) left right held.whole

-- ---- known types

two_kinds : (k l : Bool) → not (beq k l) ≡ true → k ≡ l → ⊥
two_kinds true true differ is = absurd (cc)
two_kinds true false differ is = absurd (cc)
two_kinds false true differ is = absurd (cc)
two_kinds false false differ is = absurd (cc)

-- types of two kinds have no parts that are of one
pub no_parts : (s : State TypeNode) (n m : Name) (k l : Bool) (a b x y : Name) → not (beq k l) ≡ true
    → shape_at s n ≡ Some (two k a b) → shape_at s m ≡ Some (two l x y)
    → (p q r o : Name) → HaveParts s n m p q r o → ⊥
no_parts s n m k l a b x y differ first second p q r o parts =
    let one : two k a b ≡ two parts.0 p q = same_Some _ _ (sym first ∙ parts.1) in
    let other : two l x y ≡ two parts.0 r o = same_Some _ _ (sym second ∙ parts.2) in
    two_kinds k l differ (one_kind k parts.0 (ap (λ x. x.0) one) ∙ sym (one_kind l parts.0 (ap (λ x. x.0) other)))

-- two known types that aren't of one kind with parts are no one tree
module _ (s : State TypeNode) (eq : TypeNode → TypeNode → Bool) (ok : IsState eq s)
    (alike : (v w : TypeNode) → (eq v w ≡ true) ↔ (shape v ≡ shape w)) where
  pub same_name : (x : Shape) (n m : Name) → shape_at s n ≡ Some x → shape_at s m ≡ Some x → n ≡ m
  same_name x n m a b = (names_tell_views eq shape alike s ok n m x x a b).1 refl

  module _ (v : ℕ → Tree) where
    leaf_is : (n : Name) (x : Tree) → IsNoUnknown s n → (leaf : IsLeaf s n) → StandsFor s v n x → x ≡ tree leaf.0 no_more
    leaf_is n x known leaf h =
        h.2 ∙ ap (replaced v) (leaf_tree s n leaf.0 h.0 leaf.1 h.1)
        ∙ known_stays v leaf.0 no_more (λ k is. known k (leaf.1 ∙ ap (λ j. Some (j, [])) is))

    pub apart : (n m : Name) → n ≢ m → IsNoUnknown s n → IsNoUnknown s m
        → ((a b c d : Name) → HaveParts s n m a b c d → ⊥) → AreOne s v n m → ⊥
    apart n m other first second none one =
        elim (leaf_or_two s n one.1.0 one.1.1) [
          | inl a ↦
              let left = leaf_is n one.0 first a one.1 in
              elim (leaf_or_two s m one.2.0 one.2.1) [
                | inl b ↦
                    let trees : tree a.0 no_more ≡ tree b.0 no_more = sym left ∙ leaf_is m one.0 second b one.2 in
                    let kinds : a.0 ≡ b.0 = cc in
                    other (same_name (b.0, []) n m (a.1 ∙ ap (λ k. Some (k, [])) kinds) b.1)
                | inr b ↦
                    let differ = sym left ∙ (out s v b.0 m b.1 b.2 b.3 one.0 one.2).is in absurd (cc)
              ]
          | inr a ↦
              let left = (out s v a.0 n a.1 a.2 a.3 one.0 one.1).is in
              elim (leaf_or_two s m one.2.0 one.2.1) [
                | inl b ↦ let differ = sym left ∙ leaf_is m one.0 second b one.2 in absurd (cc)
                | inr b ↦
                    let trees = sym (out s v b.0 m b.1 b.2 b.3 one.0 one.2).is ∙ left in
                    let kinds = one_kind b.0 a.0 (cc) in
                    none a.1 a.2 b.1 b.2 (a.0, a.3, b.3 ∙ ap (λ k. Some (two k b.1 b.2)) kinds)
              ]
        ]
