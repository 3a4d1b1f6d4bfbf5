-- What a collection leaves of a store.
use Rattle.std.proofs.Common.{Bool, List, IsSome, Result}
use Rattle.std.specs.declared.alloc.AllocError.{AllocError}
use Rattle.ra_ap_intern.specs.Names.{has}
use Rattle.ra_ap_intern.specs.Families.{kept_named}
use Rattle.ra_ap_intern.specs.Name.{Name}
use Rattle.ra_ap_intern.specs.Reach.{IsReachedSet}
use Rattle.ra_ap_intern.specs.Sliced.{Sliced}
use Rattle.ra_ap_intern.specs.State.{State, reads}
use Rattle.ra_ap_intern.specs.declared.gc.Collected.{Collected}
use Rattle.ra_ap_intern.specs.declared.symbol.Symbol.{Symbol}
use Rattle.intern_terms.specs.Store.{arguments, terms_of}
use Rattle.intern_terms.specs.Tree.{Tree, head_name, UnfoldsTo}
use Rattle.intern_terms.specs.declared.handle.TermRef.{TermRef}
use Rattle.ra_ap_intern.proofs.CallerLemmas.{CollectsOne, kept_was_read, some_read, tree_kept, tree_collected as stays_collected}

-- the tree of a term that is left is as it was
pub left_tree : (begins : Name → Bool) (s : State (Sliced Symbol TermRef)) (names : List Name)
    → IsReachedSet begins (terms_of s) names → (t : Tree) (name : Name)
    → IsSome (reads (kept_named s (has names)) name)
    → UnfoldsTo s name t → UnfoldsTo (kept_named s (has names)) name t
left_tree begins s names is t name left =
    let v = some_read _ left in
    let was = kept_was_read s (has names) name v.0 v.1 in
    tree_kept arguments head_name begins s names is t name was.0

-- also where a collection does nothing
module _ (begins : Name → Bool) (s t : State (Sliced Symbol TermRef))
    (r : Result Collected AllocError)
    (is : CollectsOne arguments begins s t r) where
  pub tree_collected : (name : Name) (x : Tree) → IsSome (reads t name) → UnfoldsTo s name x
      → UnfoldsTo t name x
  tree_collected = stays_collected arguments head_name begins s t r is
