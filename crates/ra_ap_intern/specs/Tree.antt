-- Values over others, unfolded into trees.
use Rattle.std.specs.Prelude.{◌≡◌, ℕ, suc, List, [], ◌∷◌, Some}
use Rattle.intern_store.specs.State.{State, reads}
use Rattle.intern_store.specs.declared.names.Name.{Name}

-- what is seen of a value, over trees
mutual
  pub data Tree (X : Type 0) : Type 0 where
    tree : X → Trees X → Tree X

  pub data Trees (X : Type 0) : Type 0 where
    no_more : Trees X
    one_more : Tree X → Trees X → Trees X

-- how many trees
abbrev pub count : {X : Type 0} → Trees X → ℕ
count no_more = 0
count (one_more t ts) = suc (count ts)

-- two lists of trees in one
abbrev pub joined : {X : Type 0} → Trees X → Trees X → Trees X
joined no_more us = us
joined (one_more t ts) us = one_more t (joined ts us)

abbrev mutual
  -- a name reads a value of which this is seen, and whose children unfold into these trees, one by
  -- one
  pub UnfoldsTo : {V X : Type 0} → (V → List Name) → (V → X) → State V → Name → Tree X → Type 0
  UnfoldsTo {V} children see s name (tree x trees) = (v : V) × (reads s name ≡ Some v)
      × (see v ≡ x) × AllUnfold children see s (children v) trees

  pub AllUnfold : {V X : Type 0} → (V → List Name) → (V → X) → State V → List Name → Trees X
      → Type 0
  AllUnfold children see s [] no_more = Unit {0}
  AllUnfold children see s [] (one_more t ts) = ⊥
  AllUnfold children see s (name ∷ names) no_more = ⊥
  AllUnfold children see s (name ∷ names) (one_more t ts) =
      UnfoldsTo children see s name t × AllUnfold children see s names ts
