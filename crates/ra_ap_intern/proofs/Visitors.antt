-- The marks of names that are declared one list after the other.
use Rattle.std.proofs.Common.{◌≡◌, ℕ, ◌+◌, ◌<◌, List, [], ◌∷◌, ◌++◌, length, drop, get_or, refl, ap, sym, ◌∙◌, add-one, drop-cons}
use Rattle.std.specs.List.{flat_map}
use Rattle.intern_marks.specs.Marks.{Marks, mark, marks}
use Rattle.intern_store.specs.declared.names.Name.{Name}

-- two lists are marked one after the other
pub marks_append : (m : Marks) (first second : List Name)
    → marks m (first ++ second) ≡ marks (marks m first) second
marks_append m [] second = refl
marks_append m (name ∷ first) second = marks_append (mark m name) first second

-- what is left to mark, once one more item was visited
pub marks_left : {V : Type 0} (children : V → List Name) (items : List V) (i : ℕ) (item : V)
    (m : Marks) → i < length items → item ≡ get_or items i item
    → marks m (flat_map children (drop i items))
    ≡ marks (marks m (children item)) (flat_map children (drop (i + 1) items))
marks_left children items i item m below is =
    ap (λ rest. marks m (flat_map children rest))
    (drop-cons items i item below ∙ ap (λ n. get_or items i item ∷ drop n items) (sym (add-one i)))
    ∙ ap (λ v. marks m (children v ++ flat_map children (drop (i + 1) items))) (sym is)
    ∙ marks_append m (children item) (flat_map children (drop (i + 1) items))
