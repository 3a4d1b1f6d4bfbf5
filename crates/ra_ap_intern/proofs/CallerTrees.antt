-- Values over others, and their trees.
use Rattle.std.proofs.Common.{◌≡◌, ◌↔◌, ℕ, zero, suc, ◌<◌, Bool, true, List, [], ◌∷◌, Some, IsSome, is_some, Result, refl, sym, ap, subst, ◌∙◌, arith}
use Rattle.std.specs.Cmp.{IsEquivalence}
use Rattle.std.specs.declared.alloc.AllocError.{AllocError}
use Rattle.std.proofs.lemmas.Bool.{or_left, or_right}
use Rattle.std.proofs.lemmas.Option.{same_Some}
use Rattle.ra_ap_intern.specs.Families.{entries_of, kept_named}
use Rattle.ra_ap_intern.specs.Name.{Name}
use Rattle.ra_ap_intern.specs.Names.{has}
use Rattle.ra_ap_intern.specs.Order.{IsBuilt}
use Rattle.ra_ap_intern.specs.Reach.{IsReachedSet}
use Rattle.ra_ap_intern.specs.State.{State, IsState, reads, interned, interned_name}
use Rattle.ra_ap_intern.specs.declared.gc.Collected.{Collected}
use Rattle.ra_ap_intern.specs.Tree.{Tree, Trees, tree, no_more, one_more, UnfoldsTo, AllUnfold}
use Rattle.intern_store.proofs.Named.{same_names}
use Rattle.intern_store.proofs.Reading.{interned_reads}
use Rattle.ra_ap_intern.proofs.CallerCollections.{kept_reads, kept_was_read}
use Rattle.ra_ap_intern.proofs.CallerOrder.{declared_kept}
use Rattle.ra_ap_intern.proofs.CallerReads.{read_once, some_read, interned_reads_on}
use Rattle.ra_ap_intern.proofs.CallerViews.{CollectsOne, one_collected}

-- a list has its first name, and those of the rest
pub has_first : (name : Name) (names : List Name) → has (name ∷ names) name ≡ true
has_first name names = or_left _ _ (same_names name name refl)

pub has_later : (name other : Name) (names : List Name) → has names other ≡ true
    → has (name ∷ names) other ≡ true
has_later name other names is = or_right _ _ is

-- values that are equal exactly if a pair is seen of them are so exactly if both its parts are
pub parts_alike : {V X Y : Type 0} (eq : V → V → Bool) (shape : V → X × Y)
    → ((v w : V) → (eq v w ≡ true) ↔ (shape v ≡ shape w)) → (v w : V)
    → (eq v w ≡ true) ↔ (((shape v).0 ≡ (shape w).0) × ((shape v).1 ≡ (shape w).1))
parts_alike eq shape alike v w = (
  λ is. let same = (alike v w).0 is in (ap (λ x. x.0) same, ap (λ x. x.1) same),
  λ is. (alike v w).1 (λ k. (is.0 k, is.1 k)),
)

module _ {V X : Type 0} (children : V → List Name) (see : V → X) where
  module _ (s : State V) where
    -- a name has one tree
    mutual
      pub one_tree : (t u : Tree X) (name : Name) → UnfoldsTo children see s name t
          → UnfoldsTo children see s name u → t ≡ u
      one_tree (tree x ts) (tree y us) name a b =
          let same : a.0 ≡ b.0 = let p = a.1 in let q = b.1 in cc in
          let seen : x ≡ y = sym a.2 ∙ ap see same ∙ b.2 in
          let trees = one_forest ts us (children a.0) a.3 (rw same b.3) in
          λ k. tree (seen k) (trees k)

      pub one_forest : (ts us : Trees X) (names : List Name) → AllUnfold children see s names ts
          → AllUnfold children see s names us → ts ≡ us
      one_forest no_more no_more [] a b = refl
      one_forest no_more (one_more u us) [] a b = absurd b
      one_forest (one_more t ts) us [] a b = absurd a
      one_forest no_more us (name ∷ names) a b = absurd a
      one_forest (one_more t ts) no_more (name ∷ names) a b = absurd b
      one_forest (one_more t ts) (one_more u us) (name ∷ names) a b =
          let first = one_tree t u name a.0 b.0 in
          let rest = one_forest ts us names a.1 b.1 in
          λ k. one_more (first k) (rest k)

    -- and is read
    pub tree_read : (x : Tree X) (name : Name) → UnfoldsTo children see s name x
        → IsSome (reads s name)
    tree_read (tree x ts) name a = ap is_some a.1

    -- its tree is what is seen of the value that it reads, over the trees of the children of that
    pub tree_node : (t : Tree X) (name : Name) (v : V) → UnfoldsTo children see s name t
        → reads s name ≡ Some v
        → (ts : Trees X) × (t ≡ tree (see v) ts) × AllUnfold children see s (children v) ts
    tree_node (tree x ts) name v is read =
        let same = same_Some _ _ (sym is.1 ∙ read) in (
          ts,
          ap (λ seen. tree seen ts) (sym is.2 ∙ ap see same),
          subst (λ w. AllUnfold children see s (children w) ts) same is.3,
        )

    -- the name that unfolds into the first of a list of trees, and those of the others
    pub forest_first : (t : Tree X) (ts : Trees X) (names : List Name)
        → AllUnfold children see s names (one_more t ts)
        → (first : Name) × (others : List Name) × (names ≡ first ∷ others)
        × UnfoldsTo children see s first t × AllUnfold children see s others ts
    forest_first t ts [] all = absurd all
    forest_first t ts (first ∷ others) all = (first, others, refl, all.0, all.1)

    -- where there is no tree there is no name
    pub forest_none : (names : List Name) → AllUnfold children see s names no_more → names ≡ []
    forest_none [] all = refl
    forest_none (a ∷ names) all = absurd all

    -- the name of one tree, and those of two
    pub forest_one : (t : Tree X) (names : List Name)
        → AllUnfold children see s names (one_more t no_more)
        → (name : Name) × (names ≡ name ∷ []) × UnfoldsTo children see s name t
    forest_one t names all =
        let first = forest_first t no_more names all in
        (first.0, first.2 ∙ ap (λ rest. first.0 ∷ rest) (forest_none first.1 first.4), first.3)

    pub forest_two : (t u : Tree X) (names : List Name)
        → AllUnfold children see s names (one_more t (one_more u no_more))
        → (name : Name) × (other : Name) × (names ≡ name ∷ other ∷ [])
        × UnfoldsTo children see s name t × UnfoldsTo children see s other u
    forest_two t u names all =
        let first = forest_first t (one_more u no_more) names all in
        let second = forest_one u first.1 first.4 in (
          first.0,
          second.0,
          first.2 ∙ ap (λ rest. first.0 ∷ rest) second.1,
          first.3,
          second.2,
        )

  -- a tree has one name, where values are equal exactly if the same is seen of them and they have
  -- the same children
  module _ (eq : V → V → Bool) (alike : (v w : V) → (eq v w ≡ true) ↔ ((see v ≡ see w) × (children v ≡ children w))) (s : State V) (ok : IsState eq s) where
    mutual
      pub one_name : (t : Tree X) (n m : Name) → UnfoldsTo children see s n t
          → UnfoldsTo children see s m t → n ≡ m
      one_name (tree x ts) n m a b =
          read_once eq s ok n m a.0 b.0 a.1 b.1
          ((alike a.0 b.0).1 (a.2 ∙ sym b.2, one_list ts (children a.0) (children b.0) a.3 b.3))

      -- and a list of trees one list of names
      pub one_list : (ts : Trees X) (ns ms : List Name) → AllUnfold children see s ns ts
          → AllUnfold children see s ms ts → ns ≡ ms
      one_list no_more [] [] a b = refl
      one_list no_more [] (m ∷ ms) a b = absurd b
      one_list no_more (n ∷ ns) ms a b = absurd a
      one_list (one_more t ts) [] ms a b = absurd a
      one_list (one_more t ts) (n ∷ ns) [] a b = absurd b
      one_list (one_more t ts) (n ∷ ns) (m ∷ ms) a b =
          let first = one_name t n m a.0 b.0 in
          let rest = one_list ts ns ms a.1 b.1 in
          λ k. first k ∷ rest k

    -- names are equal exactly if their trees are
    pub names_tell_trees : (n m : Name) (t u : Tree X) → UnfoldsTo children see s n t
        → UnfoldsTo children see s m u → (n ≡ m) ↔ (t ≡ u)
    names_tell_trees n m t u a b =
        (λ same. one_tree s t u m (rw same at a) b, λ same. one_name u n m (rw same at a) b)

  -- all that is read has a tree
  module _ (s : State V) (built : IsBuilt children s) where
    has_forest : (k : ℕ)
        → ((n : Name) → n.birth < k → IsSome (reads s n)
        → (t : Tree X) × UnfoldsTo children see s n t)
        → (ns : List Name) → ((a : Name) → has ns a ≡ true → (a.birth < k) × IsSome (reads s a))
        → (ts : Trees X) × AllUnfold children see s ns ts
    has_forest k each [] there = (no_more, tt)
    has_forest k each (n ∷ ns) there =
        let here = there n (has_first n ns) in
        let first = each n here.0 here.1 in
        let rest = has_forest k each ns (λ a is. there a (has_later n a ns is)) in
        (one_more first.0 rest.0, (first.1, rest.1))

    has_tree_below : (k : ℕ) (n : Name) → n.birth < k → IsSome (reads s n)
        → (t : Tree X) × UnfoldsTo children see s n t
    has_tree_below zero n lt is = absurd (omega arith)
    has_tree_below (suc k) n lt is =
        let v = some_read (reads s n) is in
        let forest = has_forest k (has_tree_below k) (children v.0) (λ a h.
        let below = (built.falls n a v.0 v.1 h).birth in
        (omega arith, built.stands n a v.0 v.1 h)) in
        (tree (see v.0) forest.0, (v.0, v.1, refl, forest.1))

    pub has_tree : (n : Name) → IsSome (reads s n) → (t : Tree X) × UnfoldsTo children see s n t
    has_tree n is = has_tree_below (suc n.birth) n (omega arith) is

  -- a tree stays where the reads do
  module _ (s t : State V) (on : (n : Name) (v : V) → reads s n ≡ Some v → reads t n ≡ Some v) where
    mutual
      pub tree_on : (x : Tree X) (n : Name) → UnfoldsTo children see s n x
          → UnfoldsTo children see t n x
      tree_on (tree x ts) n a = (a.0, on n a.0 a.1, a.2, all_on ts (children a.0) a.3)

      all_on : (ts : Trees X) (ns : List Name) → AllUnfold children see s ns ts
          → AllUnfold children see t ns ts
      all_on no_more [] a = tt
      all_on no_more (n ∷ ns) a = absurd a
      all_on (one_more x xs) [] a = absurd a
      all_on (one_more x xs) (n ∷ ns) a = (tree_on x n a.0, all_on xs ns a.1)

  -- and so do lists of trees, where each tree does
  pub forest_on : (s t : State V)
      → ((n : Name) (x : Tree X) → UnfoldsTo children see s n x → UnfoldsTo children see t n x)
      → (ts : Trees X) (ns : List Name) → AllUnfold children see s ns ts
      → AllUnfold children see t ns ts
  forest_on s t on no_more [] all = tt
  forest_on s t on no_more (n ∷ ns) all = absurd all
  forest_on s t on (one_more x xs) [] all = absurd all
  forest_on s t on (one_more x xs) (n ∷ ns) all = (on n x all.0, forest_on s t on xs ns all.1)

  pub tree_interned : (eq : V → V → Bool) (s : State V) → IsState eq s → (w : V) (x : Tree X)
      (n : Name) → UnfoldsTo children see s n x → UnfoldsTo children see (interned eq s w).state n x
  tree_interned eq s ok w = tree_on s _ (interned_reads_on eq s ok w)

  -- the name of a value unfolds into what is seen of it over the trees of its children
  pub tree_made : (eq : V → V → Bool) → IsEquivalence eq
      → ((v w : V) → (eq v w ≡ true) ↔ ((see v ≡ see w) × (children v ≡ children w)))
      → (s : State V) → IsState eq s → (v : V) (ts : Trees X)
      → AllUnfold children see s (children v) ts
      → UnfoldsTo children see (interned eq s v).state (interned_name eq s v) (tree (see v) ts)
  tree_made eq laws alike s ok v ts all =
      let next = (interned eq s v).state in
      let read = interned_reads eq laws s v in
      let parts = (alike v read.0).0 read.2 in (
        read.0,
        read.1,
        sym parts.0,
        subst (λ ns. AllUnfold children see next ns ts) parts.1
            (forest_on s next (λ n x. tree_interned eq s ok v x n) ts (children v) all),
      )

  -- a collection leaves the whole tree of a name that it keeps
  module _ (begins : Name → Bool) (s : State V) (names : List Name) (is : IsReachedSet begins (entries_of children s) names) where
    mutual
      pub tree_kept : (x : Tree X) (n : Name) → has names n ≡ true → UnfoldsTo children see s n x
          → UnfoldsTo children see (kept_named s (has names)) n x
      tree_kept (tree x ts) n kept a = (
        a.0,
        kept_reads s (has names) n kept ∙ a.1,
        a.2,
        forest_kept ts (children a.0) (λ m. declared_kept children begins s names is n m a.0 kept a.1) a.3,
      )

      forest_kept : (ts : Trees X) (ns : List Name)
          → ((m : Name) → has ns m ≡ true → IsSome (reads s m) → has names m ≡ true)
          → AllUnfold children see s ns ts
          → AllUnfold children see (kept_named s (has names)) ns ts
      forest_kept no_more [] each a = tt
      forest_kept no_more (n ∷ ns) each a = absurd a
      forest_kept (one_more x xs) [] each a = absurd a
      forest_kept (one_more x xs) (n ∷ ns) each a = (
        tree_kept x n (each n (has_first n ns) (tree_read s x n a.0)) a.0,
        forest_kept xs ns (λ m h. each m (has_later n m ns h)) a.1,
      )

  -- and a collection that leaves a name, or does nothing, leaves its tree
  module _ (begins : Name → Bool) (s t : State V) (r : Result Collected AllocError) (is : CollectsOne children begins s t r) where
    pub tree_collected : (name : Name) (x : Tree X) → IsSome (reads t name)
        → UnfoldsTo children see s name x → UnfoldsTo children see t name x
    tree_collected =
        one_collected children begins s t r is
        (λ f. (name : Name) (x : Tree X) → IsSome (reads f name)
        → UnfoldsTo children see s name x → UnfoldsTo children see f name x) (λ name x left a. a)
        (λ names set name x left a.
        let v = some_read _ left in
        let was = kept_was_read s (has names) name v.0 v.1 in
        tree_kept begins s names set x name was.0 a)
