-- Solutions that leave as it is what nothing is known of.
use Rattle.std.proofs.Common.{◌≡◌, ◌≢◌, inl, inr, ℕ, Bool, true, false, Some, refl, sym, ap, ◌∙◌}
use Rattle.std.proofs.lemmas.Bool.{eq-eqb, ne_eqb}
use Rattle.std.proofs.Math.Dec.{eqb}
use Rattle.ra_ap_intern.specs.Name.{Name}
use Rattle.ra_ap_intern.specs.State.{State}
use Rattle.ra_ap_intern.specs.Tree.{Trees, tree, no_more, one_more}
use Rattle.types.specs.Tree.{Tree, unknowns, Occurs, OccursAmong}
use Rattle.types.specs.Types.{Kind, unknown, shape_at}
use Rattle.types.specs.Unifying.{replaced, all_replaced, Solves, Agree, Binds, HasTree, IsFree, IsOpen, IsPrincipal, IsSolvable, two}
use Rattle.types.specs.declared.unknowns.Unknowns.{Unknowns}
use Rattle.types.specs.declared.value.TypeNode.{TypeNode}
use Rattle.types.proofs.Pairs.{out}

abbrev put_if : Bool → Tree → ℕ → Tree
put_if true t n = t
put_if false t n = unknowns n

-- a tree in the place of one unknown type
abbrev put : ℕ → Tree → ℕ → Tree
put k t n = put_if (eqb n k) t n

put_here : (k : ℕ) (t : Tree) → put k t k ≡ t
put_here k t = ap (λ b. put_if b t k) (eq-eqb k k refl)

put_else : (k : ℕ) (t : Tree) (n : ℕ) → n ≢ k → put k t n ≡ unknowns n
put_else k t n other = ap (λ b. put_if b t n) (ne_eqb n k other)

mutual
  replaced_twice : (w v : ℕ → Tree) (t : Tree) → replaced (λ n. replaced w (v n)) t ≡ replaced w (replaced v t)
  replaced_twice w v (tree (unknown n) no_more) = refl
  replaced_twice w v (tree kind ts) = λ i. tree kind (all_twice w v ts i)

  all_twice : (w v : ℕ → Tree) (ts : Trees Kind) → all_replaced (λ n. replaced w (v n)) ts ≡ all_replaced w (all_replaced v ts)
  all_twice w v no_more = refl
  all_twice w v (one_more t ts) = λ i. one_more (replaced_twice w v t i) (all_twice w v ts i)

mutual
  replaced_without : (k : ℕ) (x t : Tree) → (Occurs k t → ⊥) → replaced (put k x) t ≡ t
  replaced_without k x (tree (unknown n) no_more) none = put_else k x n (λ is. none (inl is))
  replaced_without k x (tree kind ts) none = λ i. tree kind (all_without k x ts (λ h. none (inr h)) i)

  all_without : (k : ℕ) (x : Tree) (ts : Trees Kind) → (OccursAmong k ts → ⊥) → all_replaced (put k x) ts ≡ ts
  all_without k x no_more none = refl
  all_without k x (one_more t ts) none =
      λ i. one_more (replaced_without k x t (λ h. none (inl h)) i) (all_without k x ts (λ h. none (inr h)) i)

pub open_is_free : (u : Unknowns) (number : ℕ) → IsOpen u number → IsFree u number
open_is_free u number at handle is = let nothing = at.1 in absurd (cc)

-- an unknown type that is no part of a type becomes that
module _ (s : State TypeNode) (old new : Unknowns) (number : ℕ) (n : Name) (v : ℕ → Tree) (is : IsPrincipal s old v)
    (free_here : IsFree old number) (binds : Binds s old new number n)
    (free : (k : ℕ) → IsFree new k → IsFree old k × (k ≢ number))
    (tree : HasTree s n) (none : Occurs number (replaced v tree.0) → ⊥) where
  abbrev here : Tree
  here = replaced v tree.0

  abbrev changed : ℕ → Tree
  changed k = replaced (put number here) (v k)

  changed_here : changed number ≡ replaced changed tree.0
  changed_here =
      ap (replaced (put number here)) (is.free number free_here) ∙ put_here number here
      ∙ sym (replaced_twice (put number here) v tree.0 ∙ replaced_without number here here none)

  still_solves : Solves s old changed
  still_solves k handle at =
      let before = is.solves k handle at in (
        before.0,
        before.1,
        ap (replaced (put number here)) before.2 ∙ sym (replaced_twice (put number here) v before.0),
      )

  pub bound_is_solvable : IsSolvable s new
  bound_is_solvable = (
    changed,
    record {
      solves = (binds changed).1 (still_solves, (tree.0, tree.1, changed_here));
      free = λ k free_now.
          let before = free k free_now in
          ap (replaced (put number here)) (is.free k before.0) ∙ put_else number here k before.1;
    },
  )

-- ---- what has a tree

pub parts_have_trees : (s : State TypeNode) (kind : Bool) (n a b : Name) → shape_at s n ≡ Some (two kind a b)
    → HasTree s n → HasTree s a × HasTree s b
parts_have_trees s kind n a b at whole =
    let o = out s unknowns kind n a b at (replaced unknowns whole.0) (whole.0, whole.1, refl) in (
      (o.first_is.0, o.first_is.1),
      (o.second_is.0, o.second_is.1),
    )

pub agreeing_has_tree : (s : State TypeNode) (v : ℕ → Tree) (a b : Name) → Agree s v a b → HasTree s a → HasTree s b
agreeing_has_tree s v a b agree whole =
    let other = (agree (replaced v whole.0)).0 (whole.0, whole.1, refl) in
    (other.0, other.1)
