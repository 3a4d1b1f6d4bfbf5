-- What types unfold into.
use Rattle.std.proofs.Common.{◌≡◌, ◌⊎◌, inl, inr, ℕ, Bool, true, false, List, [], Some, refl, sym, ap, subst, ◌∙◌}
use Rattle.std.specs.Option.{option_map}
use Rattle.std.proofs.lemmas.Option.{same_Some}
use Rattle.ra_ap_intern.specs.Name.{Name}
use Rattle.ra_ap_intern.specs.State.{State, reads}
use Rattle.ra_ap_intern.specs.Tree.{Trees, tree, no_more, AllUnfold}
use Rattle.types.specs.Tree.{Tree, UnfoldsTo}
use Rattle.types.specs.Types.{Kind, integer, boolean, unknown, any, declared_by, kind_of, open_shape, shape, shape_at}
use Rattle.types.specs.Unifying.{placed, either, two}
use Rattle.types.specs.declared.value.TypeNode.{TypeNode}
use Rattle.types.specs.declared.value.TypeNode.TheVariants.{Integer, Boolean, Unknown, Any, Function', Pair', outs-Integer, outs-Boolean, outs-Unknown, outs-Any, outs-Function', outs-Pair'}
use Rattle.ra_ap_intern.proofs.CallerLemmas.{one_tree, seen_read, some_read}

abbrev HasNoParts : TypeNode → Type 0
HasNoParts t = (kind : Kind) × (shape t ≡ (kind, []))

abbrev HasTwo : TypeNode → Type 0
HasTwo t = (kind : Bool) × (a b : Name) × (shape t ≡ two kind a b)

-- a type has no parts, or two
none_or_two : (t : TypeNode) → HasNoParts t ⊎ HasTwo t
none_or_two Integer = inl (integer, ap open_shape outs-Integer)
none_or_two Boolean = inl (boolean, ap open_shape outs-Boolean)
none_or_two (Unknown x) = inl (unknown x, ap open_shape (outs-Unknown x))
none_or_two (Any x) = inl (any x, ap open_shape (outs-Any x))
none_or_two (Function' p q r s) = inr (true, _, _, ap open_shape (outs-Function' p q r s))
none_or_two (Pair' p q r s) = inr (false, _, _, ap open_shape (outs-Pair' p q r s))

-- a kind that isn't unknown stays, and so does one with parts
pub known_stays : (v : ℕ → Tree) (kind : Kind) (ts : Trees Kind) → ((x : ℕ) → kind ≡ unknown x → ⊥)
    → placed v kind ts ≡ tree kind ts
known_stays v (unknown x) ts known = absurd (known x refl)
known_stays v kind ts known = refl

pub two_stays : (v : ℕ → Tree) (kind : Bool) (ts : Trees Kind) → placed v (either kind) ts ≡ tree (either kind) ts
two_stays v true ts = refl
two_stays v false ts = refl

module _ (s : State TypeNode) where
  abbrev pub AllOf : List Name → Trees Kind → Type 0
  AllOf = AllUnfold declared_by kind_of s

  -- a type unfolds into its kind over what its parts unfold into
  pub unfolds : (n : Name) (kind : Kind) (names : List Name) (ts : Trees Kind) → shape_at s n ≡ Some (kind, names)
      → AllOf names ts → UnfoldsTo s n (tree kind ts)
  unfolds n kind names ts at all =
      let v = some_read (reads s n) (seen_read shape _ _ at) in
      let is : shape v.0 ≡ (kind, names) = same_Some _ _ (sym (ap (option_map shape) v.1) ∙ at) in
      (v.0, v.1, ap (λ x. x.0) is, subst (λ ns. AllOf ns ts) (sym (ap (λ x. x.1) is)) all)

  -- and into nothing else
  pub unfolded : (n : Name) (kind : Kind) (names : List Name) (j : Kind) (ts : Trees Kind)
      → shape_at s n ≡ Some (kind, names) → UnfoldsTo s n (tree j ts) → (j ≡ kind) × AllOf names ts
  unfolded n kind names j ts at u =
      let is : shape u.0 ≡ (kind, names) = same_Some _ _ (sym (ap (option_map shape) u.1) ∙ at) in
      (sym u.2 ∙ ap (λ x. x.0) is, subst (λ ns. AllOf ns ts) (ap (λ x. x.1) is) u.3)

  -- a leaf has one tree
  pub leaf_tree : (n : Name) (kind : Kind) (t : Tree) → shape_at s n ≡ Some (kind, []) → UnfoldsTo s n t
      → t ≡ tree kind no_more
  leaf_tree n kind t at u = one_tree declared_by kind_of s t (tree kind no_more) n u (unfolds n kind [] no_more at tt)

  abbrev pub IsLeaf : Name → Type 0
  IsLeaf n = (kind : Kind) × (shape_at s n ≡ Some (kind, []))

  abbrev pub IsTwo : Name → Type 0
  IsTwo n = (kind : Bool) × (a b : Name) × (shape_at s n ≡ Some (two kind a b))

  pub leaf_or_two : (n : Name) (t : Tree) → UnfoldsTo s n t → IsLeaf n ⊎ IsTwo n
  leaf_or_two n (tree kind ts) u = elim (none_or_two u.0) [
    | inl leaf ↦ inl (leaf.0, ap (option_map shape) u.1 ∙ ap Some leaf.1)
    | inr both ↦ inr (both.0, both.1, both.2, ap (option_map shape) u.1 ∙ ap Some both.3)
  ]
