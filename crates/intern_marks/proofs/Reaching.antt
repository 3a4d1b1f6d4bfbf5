-- What is reached, and what is left of it once the rest is gone.
use Rattle.std.proofs.Common.{◌≡◌, Bool, true, cond, ◌&&◌, ◌||◌, List, [], ◌∷◌, Option, None, is_some, refl, sym, ◌∙◌, ap, arith}
use Rattle.std.specs.List.{filter}
use Rattle.intern_store.specs.declared.names.Name.{Name}
use Rattle.intern_store.proofs.Named.{names_same}
use Rattle.intern_store.specs.Named.{same_name}
use Rattle.intern_marks.specs.Names.{has}
use Rattle.intern_marks.specs.Reach.{Entry, entry_of, is_entry, counted_entry, children_of, children_in, starts_with, IsPath, Reached, IsReachedSet, kept_entries, IsClosed}

-- each set that has the names at which paths begin, and with a name its children that are entries,
-- has all that is reached
pub least : (begins : Name → Bool) (family : List Entry) (set : Name → Bool) → ((x : Name) → begins x ≡ true → set x ≡ true)
    → ((parent x : Name) → set parent ≡ true → has (children_in family parent) x ≡ true → is_entry family x ≡ true → set x ≡ true)
    → (before : List Name) (x : Name) → IsPath begins family before x → set x ≡ true
least begins family set first closed [] x path = first x path
least begins family set first closed (parent ∷ before) x path =
    closed parent x (least begins family set first closed before parent path.2) path.1 path.0

-- an entry that is kept is found as before, and no other is there
find_kept : (names : List Name) (family : List Entry) (x : Name) → entry_of (kept_entries family names) x ≡ cond (has names x) (entry_of family x) None
find_kept names [] x = grind arith
find_kept names (e ∷ family) x =
    let rest = find_kept names family x in
    let same : same_name x e.name ≡ true → has names e.name ≡ has names x = λ same. ap (has names) (sym (names_same x e.name same)) in
    grind (arith, same, rest)

-- what is reached is reached once the rest is gone, and nothing else is
module _ (family : List Entry) (listed names : List Name) (is : IsReachedSet (starts_with listed family) family names) where
  abbrev pub rest : List Entry
  rest = kept_entries family names

  same_entry : (x : Name) → Reached (starts_with listed family) family x → entry_of rest x ≡ entry_of family x
  same_entry x reached = let stays = (is.reached x).1 reached in grind (arith, find_kept names family x, stays)

  into : (before : List Name) (x : Name) → IsPath (starts_with listed family) family before x → IsPath (starts_with listed rest) rest before x
  into [] x path = ap (λ (o : Option Entry). counted_entry o || (is_some o && has listed x)) (same_entry x ([], path)) ∙ path
  into (parent ∷ before) x path = (
    ap is_some (same_entry x (parent ∷ before, path)) ∙ path.0,
    ap (λ (o : Option Entry). has (children_of o) x) (same_entry parent (before, path.2)) ∙ path.1,
    into before parent path.2,
  )

  -- what an entry that is left tells, it told before
  declares : (parent x : Name) → has (children_in rest parent) x ≡ true → (has names parent ≡ true) × (has (children_in family parent) x ≡ true)
  declares parent x child = grind (arith, find_kept names family parent, child)

  out_of : (before : List Name) (x : Name) → IsPath (starts_with listed rest) rest before x → IsPath (starts_with listed family) family before x
  out_of [] x path = grind (arith, find_kept names family x, path)
  out_of (parent ∷ before) x path = (
    grind (arith, find_kept names family x, path.0),
    (declares parent x path.1).1,
    out_of before parent path.2,
  )

  pub reached_again : IsReachedSet (starts_with listed rest) rest names
  reached_again = record {
    once = is.once;
    reached = λ x. (
      (λ h. let r = (is.reached x).0 h in (r.0, into r.0 x r.1)),
      (λ r. (is.reached x).1 (r.0, out_of r.0 x r.1)),
    );
  }

  -- in a closed family each child of what is left is left
  pub closed_again : IsClosed family → IsClosed rest
  closed_again closed parent x child =
      let declared = declares parent x child in
      let up = (is.reached parent).0 declared.0 in
      let there = closed parent x declared.1 in
      ap is_some (same_entry x (parent ∷ up.0, (there, declared.1, up.1))) ∙ there

pub filter_twice : (p : Entry → Bool) (es : List Entry) → filter p (filter p es) ≡ filter p es
filter_twice p [] = refl
filter_twice p (e ∷ es) = let rest = filter_twice p es in grind (arith, rest)
