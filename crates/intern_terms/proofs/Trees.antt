-- Terms and their trees.
use Rattle.std.proofs.Common.{◌≡◌, ◌↔◌, ℕ, suc, List, [], ◌∷◌, ◌++◌, map, length, Some, None, IsSome, Result, refl, sym, ap, subst, ◌∙◌}
use Rattle.std.specs.Option.{option_map}
use Rattle.std.proofs.lemmas.Option.{same_Some}
use Rattle.ra_ap_intern.specs.Name.{Name}
use Rattle.ra_ap_intern.specs.Outcome.{Becomes}
use Rattle.ra_ap_intern.specs.Sliced.{Sliced}
use Rattle.ra_ap_intern.specs.Slices.{slice_of}
use Rattle.ra_ap_intern.specs.State.{State, reads, entry_at, with_count, interned, interned_name}
use Rattle.ra_ap_intern.specs.Symbols.{Named, symbol_name}
use Rattle.ra_ap_intern.specs.declared.symbol.Symbol.{Symbol}
use Rattle.intern_terms.specs.Handle.{term_name}
use Rattle.intern_terms.specs.Store.{arguments, same_node, IsBuilt, IsTerms}
use Rattle.intern_terms.specs.Tree.{Tree, Trees, tree, no_more, one_more, count, joined, head_name, UnfoldsTo, AllUnfold}
use Rattle.intern_terms.specs.declared.handle.TermRef.{TermRef}
use Rattle.intern_terms.proofs.Names.{same_node-Decides, same_node_laws}
use Rattle.ra_ap_intern.proofs.CallerLemmas.{one_tree as tree_once, one_name as name_once, one_list as list_once, tree_node as node_of, names_tell_trees as tell_trees, has_tree as tree_there, tree_on as stays_on, forest_on as stay_on, tree_interned as stays_interned, tree_made, forest_first as first_of, forest_none as none_of, forest_one as one_of, forest_two as two_of, becomes_either, reads-recounted}

module _ (s : State (Sliced Symbol TermRef)) where
  -- a name has one tree
  pub one_tree : (t u : Tree) (name : Name) → UnfoldsTo s name t → UnfoldsTo s name u → t ≡ u
  one_tree = tree_once arguments head_name s

  -- the name that unfolds into the first of a list of trees, and those of the others
  pub forest_first : (t : Tree) (ts : Trees) (names : List Name) → AllUnfold s names (one_more t ts)
      → (first : Name) × (others : List Name) × (names ≡ first ∷ others) × UnfoldsTo s first t
      × AllUnfold s others ts
  forest_first = first_of arguments head_name s

  -- where there is no tree there is no name
  pub forest_none : (names : List Name) → AllUnfold s names no_more → names ≡ []
  forest_none = none_of arguments head_name s

  -- the name of one tree, and those of two
  pub forest_one : (t : Tree) (names : List Name) → AllUnfold s names (one_more t no_more)
      → (name : Name) × (names ≡ name ∷ []) × UnfoldsTo s name t
  forest_one = one_of arguments head_name s

  pub forest_two : (t u : Tree) (names : List Name)
      → AllUnfold s names (one_more t (one_more u no_more))
      → (name : Name) × (other : Name) × (names ≡ name ∷ other ∷ []) × UnfoldsTo s name t
      × UnfoldsTo s other u
  forest_two = two_of arguments head_name s

-- what a name reads is what its tree is made of
module _ (s : State (Sliced Symbol TermRef)) (name : Name) where
  -- its head
  pub tree_head : (head : Named) (ts : Trees) → UnfoldsTo s name (tree head ts) → (h : Symbol)
      → Some h ≡ option_map (λ v. v.header) (reads s name) → symbol_name h ≡ head
  tree_head head ts is h read =
      ap symbol_name (same_Some _ _ (read ∙ ap (option_map (λ v. v.header)) is.1)) ∙ is.2

  -- its arguments, which unfold into the trees below it
  pub tree_arguments : (head : Named) (ts : Trees) → UnfoldsTo s name (tree head ts)
      → (args : List TermRef) → Some args ≡ option_map (λ v. v.items) (reads s name)
      → AllUnfold s (map term_name args) ts
  tree_arguments head ts is args read =
      subst (λ items. AllUnfold s (map term_name items) ts)
      (sym (same_Some _ _ (read ∙ ap (option_map (λ v. v.items)) is.1))) is.3

  -- both at once, where what is read is known
  pub tree_node : (t : Tree) (v : Sliced Symbol TermRef) → UnfoldsTo s name t → reads s name ≡ Some v
      → (ts : Trees) × (t ≡ tree (head_name v) ts) × AllUnfold s (arguments v) ts
  tree_node t v = node_of arguments head_name s t name v

  -- where nothing is read there is no tree
  pub unread : {X : Type 0} (part : Sliced Symbol TermRef → X) (t : Tree)
      → None ≡ option_map part (reads s name) → UnfoldsTo s name t → ⊥
  unread part (tree head ts) none is =
      let found : None ≡ Some (part is.0) = none ∙ ap (option_map part) is.1 in absurd (cc)

module _ (s : State (Sliced Symbol TermRef)) where
  -- a list of references has as many trees
  pub forest_length : (ts : Trees) (terms : List TermRef) → AllUnfold s (map term_name terms) ts
      → count ts ≡ length terms
  forest_length no_more [] all = refl
  forest_length no_more (a ∷ terms) all = absurd all
  forest_length (one_more t ts) [] all = absurd all
  forest_length (one_more t ts) (a ∷ terms) all = ap suc (forest_length ts terms all.1)

  -- and two lists in one have the trees of both
  pub forest_append : (ts us : Trees) (terms others : List TermRef)
      → AllUnfold s (map term_name terms) ts → AllUnfold s (map term_name others) us
      → AllUnfold s (map term_name (terms ++ others)) (joined ts us)
  forest_append no_more us [] others first second = second
  forest_append no_more us (a ∷ terms) others first second = absurd first
  forest_append (one_more t ts) us [] others first second = absurd first
  forest_append (one_more t ts) us (a ∷ terms) others first second =
      (first.0, forest_append ts us terms others first.1 second)

-- a tree has one name, and a list of trees one list of names
module _ (s : State (Sliced Symbol TermRef)) (ok : IsTerms s) where
  pub one_name : (t : Tree) (n m : Name) → UnfoldsTo s n t → UnfoldsTo s m t → n ≡ m
  one_name = name_once arguments head_name same_node same_node-Decides s ok.state

  pub one_list : (ts : Trees) (ns ms : List Name) → AllUnfold s ns ts → AllUnfold s ms ts → ns ≡ ms
  one_list = list_once arguments head_name same_node same_node-Decides s ok.state

  -- names are equal exactly if their trees are
  pub names_tell_trees : (n m : Name) (t u : Tree) → UnfoldsTo s n t → UnfoldsTo s m u
      → (n ≡ m) ↔ (t ≡ u)
  names_tell_trees = tell_trees arguments head_name same_node same_node-Decides s ok.state

-- each term has a tree
pub has_tree : (s : State (Sliced Symbol TermRef)) → IsBuilt s → (n : Name) → IsSome (reads s n)
    → (t : Tree) × UnfoldsTo s n t
has_tree = tree_there arguments head_name

-- a tree stays where the reads do
pub tree_on : (s t : State (Sliced Symbol TermRef))
    → ((n : Name) (v : Sliced Symbol TermRef) → reads s n ≡ Some v → reads t n ≡ Some v)
    → (x : Tree) (n : Name) → UnfoldsTo s n x → UnfoldsTo t n x
tree_on = stays_on arguments head_name

-- and so do lists of trees, where each tree does
pub forest_on : (s t : State (Sliced Symbol TermRef))
    → ((n : Name) (x : Tree) → UnfoldsTo s n x → UnfoldsTo t n x)
    → (ts : Trees) (ns : List Name) → AllUnfold s ns ts → AllUnfold t ns ts
forest_on = stay_on arguments head_name

pub tree_interned : (s : State (Sliced Symbol TermRef)) → IsTerms s → (w : Sliced Symbol TermRef)
    (x : Tree) (n : Name) → UnfoldsTo s n x → UnfoldsTo (interned same_node s w).state n x
tree_interned s ok = stays_interned arguments head_name same_node s ok.state

pub tree_recounted : (f : ℕ → ℕ) (s : State (Sliced Symbol TermRef)) (b : ℕ) (x : Tree) (n : Name)
    → UnfoldsTo s n x → UnfoldsTo (with_count f s b (entry_at s b)) n x
tree_recounted f s b = tree_on s _ (λ n v is. reads-recounted f s b n ∙ is)

-- a term unfolds into its head over the trees of its arguments
pub term_unfolds : (s : State (Sliced Symbol TermRef)) → IsTerms s → (head : Symbol)
    (args : List TermRef) (ts : Trees) → AllUnfold s (map term_name args) ts
    → UnfoldsTo (interned same_node s (slice_of head args)).state
    (interned_name same_node s (slice_of head args)) (tree (symbol_name head) ts)
term_unfolds s ok head args =
    tree_made arguments head_name same_node same_node_laws same_node-Decides s ok.state
    (slice_of head args)

-- a call that changes nothing where it is refused
pub tree_becomes : {A E : Type 0} (r : Result A E) (s t next : State (Sliced Symbol TermRef))
    → Becomes r s t next → (x : Tree) (n : Name) → (UnfoldsTo s n x → UnfoldsTo next n x)
    → UnfoldsTo s n x → UnfoldsTo t n x
tree_becomes r s t next is x n on a = becomes_either (λ u. UnfoldsTo u n x) r s t next is a (on a)

-- what a call that stores a term over arguments leaves of trees
module _ (seen s t : State (Sliced Symbol TermRef)) (head : Symbol) (args : List TermRef)
    (same : s ≡ seen) (ok : IsTerms seen) where
  pub tree_after_term : {A E : Type 0} (r : Result A E)
      → Becomes r s t (interned same_node s (slice_of head args)).state
      → (x : Tree) (n : Name) → UnfoldsTo seen n x → UnfoldsTo t n x
  tree_after_term r becomes x n a =
      tree_becomes r s t _ becomes x n
      (tree_interned s (subst IsTerms (sym same) ok) (slice_of head args) x n)
      (subst (λ u. UnfoldsTo u n x) (sym same) a)

  -- and the tree of the term
  pub tree_of_term : (n : Name) → t ≡ (interned same_node s (slice_of head args)).state
      → n ≡ interned_name same_node s (slice_of head args) → (ts : Trees)
      → AllUnfold seen (map term_name args) ts → UnfoldsTo t n (tree (symbol_name head) ts)
  tree_of_term n now named ts a =
      let unfolds = term_unfolds s (subst IsTerms (sym same) ok) head args ts
      (subst (λ u. AllUnfold u (map term_name args) ts) (sym same) a) in
      subst (λ u. UnfoldsTo u n (tree (symbol_name head) ts)) (sym now)
      (subst (λ m. UnfoldsTo (interned same_node s (slice_of head args)).state m (tree (symbol_name head) ts)) (sym named) unfolds)
