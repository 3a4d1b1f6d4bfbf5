-- Unification under way.
use Rattle.std.proofs.Common.{◌≡◌, ◌↔◌, ◌⊎◌, inl, inr, ℕ, Bool, true, false, ◌&&◌, List, [], ◌∷◌, ◌++◌, Some, refl, sym, ap, subst, ◌∙◌}
use Rattle.std.specs.Bool.{MatchBool}
use Rattle.std.specs.List.{list_any}
use Rattle.std.specs.List.Sorted.{IsPermutation}
use Rattle.std.proofs.lemmas.List.Elements.{Contains-push}
use Rattle.std.proofs.lemmas.List.Folds.{Any-from_list_any}
use Rattle.ra_ap_intern.specs.Handle.{ref_name}
use Rattle.ra_ap_intern.specs.Name.{Name}
use Rattle.ra_ap_intern.specs.State.{State}
use Rattle.types.specs.Founded.{AreResolved, IsFounded, IsOver, IsResolved, known_types}
use Rattle.types.specs.Tree.{Tree}
use Rattle.types.specs.Types.{shape_at}
use Rattle.types.specs.Unifying.{Solves, AreOne, Agree, HasTree, HaveNoUnifier, IsSolvable, Unifies, HaveParts, two}
use Rattle.types.specs.declared.unknowns.Unknowns.{Unknowns}
use Rattle.types.specs.declared.value.TypeNode.{TypeNode}
use Rattle.types.proofs.Founded.{IsSound, over_now, over_then}
use Rattle.types.proofs.Pairs.{Handle, Both, Among, among_left, among_last, among_cases, among_none, parts_are_one, Linked, Covered, Justified, IsHeld, all_agree}
use Rattle.types.proofs.Sets.{Each, each_one, each_popped, each_push, inserted}
use Rattle.types.proofs.Solving.{agreeing_has_tree}
use Rattle.types.proofs.Unifying.{agree_same, agree_then, agree_back}

-- what was met, and one pair more
pub record MetAlso (old new : List Both) (f s : Name) : Type 0 where
  pub keeps : (x y : Name) → Among old x y → Among new x y
  pub here : Among new f s
  pub cases : (x y : Name) → Among new x y → Among old x y ⊎ ((f ≡ x) × (s ≡ y))

pub met_also : (old new : List Both) (p : Both) (added : Bool) → added ≡ true
    → MatchBool added (IsPermutation (p ∷ old) new) (new ≡ old) → MetAlso old new (ref_name p.0) (ref_name p.1)
met_also old new p added is puts =
    let also = inserted old new p added is puts in
    record {
      keeps = λ x y h. (h.0, also.keeps h.0 h.1, h.2, h.3);
      here = (p, also.here, refl, refl);
      cases = λ x y h. elim (also.cases h.0 h.1) [
        | inl earlier ↦ inl (h.0, earlier, h.2, h.3)
        | inr same ↦ inr (ap (λ (q : Both). ref_name q.0) same ∙ h.2, ap (λ (q : Both). ref_name q.1) same ∙ h.3)
      ];
    }

-- a pair that the set finds was met
pub met_before : (met : List Both) (eq : Handle → Handle → Bool)
    → ((a b : Handle) → (eq a b ≡ true) ↔ (ref_name a ≡ ref_name b)) → (p : Both)
    → list_any (λ q. eq p.0 q.0 && eq p.1 q.1) met ≡ true → Among met (ref_name p.0) (ref_name p.1)
met_before met eq names p found =
    let any = Any-from_list_any (λ (q : Both). eq p.0 q.0 && eq p.1 q.1) met found in
    let both = and_true (eq p.0 any.1.0) (eq p.1 any.1.1) any.4 in
    (any.1, (any.0, any.2, any.3), sym ((names p.0 any.1.0).0 both.0), sym ((names p.1 any.1.1).0 both.1))
  where
    and_true : (a b : Bool) → (a && b) ≡ true → (a ≡ true) × (b ≡ true)
    and_true true b is = (refl, is)
    and_true false b is = absurd (cc)

module _ (st : State TypeNode) (old : Unknowns) (left right : Name) where
  -- the solutions by which the two types are one tree are left, and by these all pairs that are
  -- left are one each; and whatever is left, the two agree if it does
  pub record Underway (u : Unknowns) (left_over met : List Both) : Type 0 where
    pub general : (v : ℕ → Tree) → Solves st old v → AreOne st v left right
        → Solves st u v × ((a c : Name) → Among left_over a c → AreOne st v a c)
    pub solved : (v : ℕ → Tree) → Solves st u v → Solves st old v
    pub held : (v : ℕ → Tree) → Solves st u v → IsHeld st v met left_over left right

  pub finished : (u : Unknowns) (met : List Both) → Underway u [] met → Unifies st old u left right
  finished u met is = record {
    general = λ v solves one. (is.general v solves one).0;
    solved = is.solved;
    equal = λ v solves. all_agree st v met left right (is.held v solves);
  }

  module _ (u : Unknowns) (all rest met : List Both) (p : Both) (last : all ≡ rest ++ p ∷ []) (before : Underway u all met) (f s : Name)
      (first : (v : ℕ → Tree) → Solves st u v → Agree st v (ref_name p.0) f)
      (second : (v : ℕ → Tree) → Solves st u v → Agree st v (ref_name p.1) s) where
    is : Underway u (rest ++ p ∷ []) met
    is = subst (λ xs. Underway u xs met) last before

    -- where nothing makes the last pair one tree, nothing makes the two
    pub stuck : HaveNoUnifier st u f s → HaveNoUnifier st old left right
    stuck none v solves one =
        let before = is.general v solves one in
        let popped = before.1 (ref_name p.0) (ref_name p.1) (among_last rest p) in
        none v before.0 (
          popped.0,
          (first v before.0 popped.0).0 popped.1,
          (second v before.0 popped.0).0 popped.2,
        )

    -- the last pair gives way to others
    step : (w : Unknowns) (next now : List Both)
        → ((v : ℕ → Tree) → Solves st u v → AreOne st v f s
        → Solves st w v × ((a c : Name) → Among next a c → Among rest a c ⊎ AreOne st v a c))
        → ((v : ℕ → Tree) → Solves st w v → Solves st u v)
        → ((a c : Name) → Among rest a c → Among next a c)
        → ((x y : Name) → Among met x y → Among now x y)
        → ((v : ℕ → Tree) → Solves st w v → Linked st v now f s)
        → ((v : ℕ → Tree) → Solves st w v → (x y : Name) → Among now x y
        → Among met x y ⊎ Justified st v now next x y)
        → Underway w next now
    step w next now general solved keeps met_keeps link each = record {
      general = λ v solves one.
          let before = is.general v solves one in
          let popped = before.1 (ref_name p.0) (ref_name p.1) (among_last rest p) in
          let here = general v before.0 (
            popped.0,
            (first v before.0 popped.0).0 popped.1,
            (second v before.0 popped.0).0 popped.2,
          ) in (
            here.0,
            λ a c in'. elim (here.1 a c in') [
              | inl r ↦ before.1 a c (among_left rest (p ∷ []) a c r)
              | inr o ↦ o
            ],
          );
      solved = λ v solves. is.solved v (solved v solves);
      held = λ v solves. record {
        whole = cover v solves left right (is.held v (solved v solves)).whole;
        each = λ x y in'. elim (each v solves x y in') [
          | inl m ↦ justify v solves x y ((is.held v (solved v solves)).each x y m)
          | inr j ↦ j
        ];
      };
    }
      where
        link_on : (v : ℕ → Tree) (a c : Name) → Agree st v a f → Agree st v c s → Linked st v now f s → Linked st v now a c
        link_on v a c g h (inl agree) = inl (agree_then st v a f c g (agree_then st v f s c agree (agree_back st v c s h)))
        link_on v a c g h (inr l) =
            inr (l.0, l.1, l.2, agree_then st v a f l.0 g l.3, agree_then st v c s l.1 h l.4)

        cover : (v : ℕ → Tree) → Solves st w v → (a c : Name) → Covered st v met (rest ++ p ∷ []) a c → Covered st v now next a c
        cover v solves a c (inl in') = elim (among_cases rest p a c in') [
          | inl r ↦ inl (keeps a c r)
          | inr names ↦ inr (link_on v a c
              (subst (λ n. Agree st v n f) names.0 (first v (solved v solves)))
              (subst (λ n. Agree st v n s) names.1 (second v (solved v solves)))
              (link v solves))
        ]
        cover v solves a c (inr (inl agree)) = inr (inl agree)
        cover v solves a c (inr (inr l)) = inr (inr (l.0, l.1, met_keeps l.0 l.1 l.2, l.3, l.4))

        justify : (v : ℕ → Tree) → Solves st w v → (x y : Name) → Justified st v met (rest ++ p ∷ []) x y → Justified st v now next x y
        justify v solves x y (inl agree) = inl agree
        justify v solves x y (inr j) =
            inr (j.0, j.1, j.2, j.3, j.4, cover v solves j.0 j.2 j.5, cover v solves j.1 j.3 j.6)

    -- the pair is one already
    passed : ((v : ℕ → Tree) → Solves st u v → Linked st v met f s) → Underway u rest met
    passed link =
        step u rest met (λ v solves one. (solves, λ a c in'. inl in')) (λ v solves. solves) (λ a c in'. in')
        (λ x y in'. in') link (λ v solves x y in'. inl in')

    pub passed_equal : f ≡ s → Underway u rest met
    passed_equal is = passed (λ v solves. inl (agree_same st v f s is))

    pub passed_met : Among met f s → Underway u rest met
    passed_met in' = passed (λ v solves. inr (f, s, in', agree_same st v f f refl, agree_same st v s s refl))

    module _ (now : List Both) (also : MetAlso met now f s) where
      -- one of the pair became the other
      pub bound : (w : Unknowns) → Unifies st u w f s → Underway w rest now
      bound w unifies =
          step w rest now (λ v solves one. (unifies.general v solves one, λ a c in'. inl in')) unifies.solved
          (λ a c in'. in') also.keeps (λ v solves. inl (unifies.equal v solves)) (λ v solves x y in'.
          elim (also.cases x y in') [
            | inl m ↦ inl m
            | inr names ↦ inr (inl (subst (λ n. Agree st v n y) names.0
                (subst (λ n. Agree st v f n) names.1 (unifies.equal v solves))))
          ])

      -- the pairs of their parts are left in its place
      pub parted : (q r : Both) → HaveParts st f s (ref_name r.0) (ref_name q.0) (ref_name r.1) (ref_name q.1)
          → Underway u ((rest ++ q ∷ []) ++ r ∷ []) now
      parted q r parts =
          step u next now (λ v solves one. (solves, from v one)) (λ v solves. solves)
          (λ n m in'. among_left (rest ++ q ∷ []) (r ∷ []) n m (among_left rest (q ∷ []) n m in'))
          also.keeps
          (λ v solves. inr (f, s, also.here, agree_same st v f f refl, agree_same st v s s refl))
          (λ v solves x y in'. elim (also.cases x y in') [
            | inl m ↦ inl m
            | inr names ↦ inr (inr (
              a,
              b,
              c,
              d,
              subst (λ n. HaveParts st n y a b c d) names.0 (subst (λ n. HaveParts st f n a b c d) names.1 parts),
              inl (among_last (rest ++ q ∷ []) r),
              inl (among_left (rest ++ q ∷ []) (r ∷ []) b d (among_last rest q)),
            ))
          ])
        where
          a : Name
          a = ref_name r.0

          b : Name
          b = ref_name q.0

          c : Name
          c = ref_name r.1

          d : Name
          d = ref_name q.1

          next : List Both
          next = (rest ++ q ∷ []) ++ r ∷ []

          from : (v : ℕ → Tree) → AreOne st v f s → (n m : Name) → Among next n m → Among rest n m ⊎ AreOne st v n m
          from v one n m in' =
              let ones = parts_are_one st v f s a b c d parts one in
              elim (among_cases (rest ++ q ∷ []) r n m in') [
                | inl earlier ↦ elim (among_cases rest q n m earlier) [
                  | inl other ↦ inl other
                  | inr names ↦ inr (subst (λ x. AreOne st v x m) names.0 (subst (λ x. AreOne st v b x) names.1 ones.1))
                ]
                | inr names ↦ inr (subst (λ x. AreOne st v x m) names.0 (subst (λ x. AreOne st v a x) names.1 ones.0))
              ]

  -- nothing was met yet
  pub begun : (p : Both) → ref_name p.0 ≡ left → ref_name p.1 ≡ right → Underway old (p ∷ []) []
  begun p first second = record {
    general = λ v solves one. (
      solves,
      λ a c in'. elim (among_cases [] p a c in') [
        | inl none ↦ absurd (among_none a c none)
        | inr names ↦ subst (λ n. AreOne st v n c) (sym first ∙ names.0) (subst (λ n. AreOne st v left n) (sym second ∙ names.1) one)
      ],
    );
    solved = λ v solves. solves;
    held = λ v solves. record {
      whole = inl (p, Contains-push [] p, first, second);
      each = λ x y in'. absurd (among_none x y in');
    };
  }

-- ---- what else is carried on

-- what holds of unknown types at first, and of the two types, holds of them on, and of each pair
-- that is left
abbrev pub Carried : (Unknowns → Type 0) → (Name → Type 0) → (old : Unknowns) → (left right : Name) → Unknowns
    → List Both → Type 0
Carried I Q old left right u xs = I old → Q left → Q right
    → I u × Each (λ p. Q (ref_name p.0) × Q (ref_name p.1)) xs

module _ (I : Unknowns → Type 0) (Q : Name → Type 0) (old : Unknowns) (left right : Name) where
  abbrev AreBoth : Both → Type 0
  AreBoth p = Q (ref_name p.0) × Q (ref_name p.1)

  pub carried_begun : (p : Both) → ref_name p.0 ≡ left → ref_name p.1 ≡ right
      → Carried I Q old left right old (p ∷ [])
  carried_begun p first second start a b =
      (start, each_one AreBoth p (subst Q (sym first) a, subst Q (sym second) b))

  module _ (u : Unknowns) (all rest : List Both) (p : Both) (last : all ≡ rest ++ p ∷ [])
      (before : Carried I Q old left right u all) where
    pub carried_passed : Carried I Q old left right u rest
    carried_passed start a b =
        let so = before start a b in (so.0, (each_popped AreBoth all rest p last so.1).0)

    -- and of what the last pair comes to
    module _ (f g : Name) (first : I u → Q (ref_name p.0) → Q f) (second : I u → Q (ref_name p.1) → Q g) where
      pub carried_last : I old → Q left → Q right → I u × Q f × Q g
      carried_last start a b =
          let so = before start a b in
          let here = (each_popped AreBoth all rest p last so.1).1 in
          (so.0, first so.0 here.0, second so.0 here.1)

      pub carried_bound : (w : Unknowns) → (I u → Q f → Q g → I w) → Carried I Q old left right w rest
      carried_bound w on start a b =
          let here = carried_last start a b in
          (on here.0 here.1 here.2, (carried_passed start a b).1)

      pub carried_parted : (s : State TypeNode)
          → ((kind : Bool) (n x y : Name) → shape_at s n ≡ Some (two kind x y) → Q n → Q x × Q y) → (q r : Both)
          → HaveParts s f g (ref_name r.0) (ref_name q.0) (ref_name r.1) (ref_name q.1)
          → Carried I Q old left right u ((rest ++ q ∷ []) ++ r ∷ [])
      carried_parted s parts q r are start a b =
          let here = carried_last start a b in
          let firsts = parts are.0 f (ref_name r.0) (ref_name q.0) are.1 here.1 in
          let seconds = parts are.0 g (ref_name r.1) (ref_name q.1) are.2 here.2 in (
            here.0,
            each_push AreBoth (rest ++ q ∷ []) r
                (each_push AreBoth rest q (carried_passed start a b).1 (firsts.1, seconds.1)) (firsts.0, seconds.0),
          )

-- that there is a solution, where each pair has trees
abbrev pub Standing : State TypeNode → (old : Unknowns) → (left right : Name) → Unknowns → List Both → Type 0
Standing s = Carried (IsSolvable s) (HasTree s)

pub tree_agreed : (s : State TypeNode) (u : Unknowns) (n m : Name) → ((v : ℕ → Tree) → Solves s u v → Agree s v n m)
    → IsSolvable s u → HasTree s n → HasTree s m
tree_agreed s u n m agree solvable = agreeing_has_tree s solvable.0 n m (agree solvable.0 solvable.1.solves)

-- that unknown types are founded, where each pair is over them
abbrev pub Sound : State TypeNode → (old : Unknowns) → (left right : Name) → Unknowns → List Both → Type 0
Sound s old = Carried (IsSound s old) (IsOver s (known_types old)) old

pub over_resolved : (s : State TypeNode) (old u : Unknowns) (n m : Name)
    → (IsFounded s (known_types u) → IsOver s (known_types u) n → IsOver s (known_types u) m)
    → IsSound s old u → IsOver s (known_types old) n → IsOver s (known_types old) m
over_resolved s old u n m on sound over =
    over_then s old u sound m (on sound.0 (over_now s old u sound n over))

-- two types that two come to
pub both_resolved : (s : State TypeNode) (old u : Unknowns) (n m : Name)
    → (IsFounded s (known_types u) → IsResolved s (known_types u) n)
    → (IsFounded s (known_types u) → IsResolved s (known_types u) m)
    → IsSound s old u → IsOver s (known_types old) n → IsOver s (known_types old) m
    → AreResolved s (known_types u) n m
both_resolved s old u n m left right sound a b = record {
  over = record {
    founded = sound.0;
    first = over_now s old u sound n a;
    second = over_now s old u sound m b;
  };
  first = left sound.0;
  second = right sound.0;
}
