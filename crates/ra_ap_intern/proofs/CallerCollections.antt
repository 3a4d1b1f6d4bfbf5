-- What a collector sees of a storage, and what a collection leaves.
use Rattle.std.proofs.Common.{◌≡◌, ℕ, ◌<◌, Bool, true, false, cond, ◌==◌, List, [], ◌∷◌, ◌++◌, Some, None, is_some, ap, ◌∙◌, arith}
use Rattle.std.proofs.lemmas.Bool.{and_from, or_left, or_right}
use Rattle.std.proofs.lemmas.Bool.Decides.{nat_tests}
use Rattle.ra_ap_intern.specs.Families.{entries_of, kept_named, has_number, are_distinct}
use Rattle.ra_ap_intern.specs.Kept.{Kept}
use Rattle.ra_ap_intern.specs.Name.{Name}
use Rattle.ra_ap_intern.specs.Names.{has}
use Rattle.ra_ap_intern.specs.PairLaws.{is_either}
use Rattle.ra_ap_intern.specs.Reach.{Entry, entry_of, is_entry, is_counted, children_in, children_of, counted_entry, starts, starts_with, IsReachedSet}
use Rattle.ra_ap_intern.specs.State.{State, entry_at, reads, counts}
use Rattle.ra_ap_intern.specs.StorageLaws.{entry_named, as_entry}
use Rattle.ra_ap_intern.proofs.Collections.{of_kept}
use Rattle.ra_ap_intern.proofs.Pairs.{in_first, in_second, none_in_first}
use Rattle.ra_ap_intern.proofs.CallerReads.{read_at}

-- a count above zero is one that counts
pub is_more : (c : ℕ) → 0 < c → is_counted c ≡ true
is_more c some = grind (arith, nat_tests)

module _ {V : Type 0} where
  -- a name is that of an entry where it reads something
  pub entry_read : (children : V → List Name) (s : State V) (name : Name)
      → is_entry (entries_of children s) name ≡ is_some (reads s name)
  entry_read children s name = grind (arith, entry_named children s name)

  -- the entry of a name, as a collection sees it
  pub seen_there : (children : V → List Name) (s : State V) (name : Name) (k : Kept V)
      → name.storage ≡ s.number → entry_at s name.birth ≡ Some k
      → entry_of (entries_of children s) name ≡ Some (as_entry children s name.birth k)
  seen_there children s name k home at = grind (arith, nat_tests, entry_named children s name)

  -- a name of another storage has none
  pub seen_elsewhere : (children : V → List Name) (s : State V) (name : Name)
      → (name.storage == s.number) ≡ false → entry_of (entries_of children s) name ≡ None
  seen_elsewhere children s name foreign = grind (arith, entry_named children s name)

  -- the children of an entry are those that its value declares
  pub children_read : (children : V → List Name) (s : State V) (name : Name) (v : V)
      → reads s name ≡ Some v → children_in (entries_of children s) name ≡ children v
  children_read children s name v is =
      let r = read_at s name v is in
      ap children_of (seen_there children s name r.kept r.home r.at) ∙ ap children r.same

  -- a collection begins at a name that is counted
  pub counted_starts : (children : V → List Name) (s : State V) (name : Name) (n : ℕ)
      → counts s name ≡ Some n → 0 < n → starts (entries_of children s) name ≡ true
  counted_starts children s name n is some = grind (arith, nat_tests, entry_named children s name)

  -- ---- what a collection leaves

  -- a storage that is cut to a set reads what the set has, and nothing else
  pub reads-kept_named : (s : State V) (set : Name → Bool) (name : Name)
      → reads (kept_named s set) name ≡ cond (set name) (reads s name) None
  reads-kept_named s set name = of_kept (λ k. k.value) s set name

  -- so what it reads was read, under a name of the set
  pub kept_was_read : (s : State V) (set : Name → Bool) (name : Name) (v : V)
      → reads (kept_named s set) name ≡ Some v → (set name ≡ true) × (reads s name ≡ Some v)
  kept_was_read s set name v is = grind (arith, reads-kept_named s set name)

  -- and its counts
  pub counts-kept_named : (s : State V) (set : Name → Bool) (name : Name)
      → counts (kept_named s set) name ≡ cond (set name) (counts s name) None
  counts-kept_named s set name = of_kept (λ k. k.count) s set name

  -- a name of the set reads what it read
  pub kept_reads : (s : State V) (set : Name → Bool) (name : Name) → set name ≡ true
      → reads (kept_named s set) name ≡ reads s name
  kept_reads s set name has = grind (arith, reads-kept_named s set name)

  -- and has the count that it had
  pub kept_counts : (s : State V) (set : Name → Bool) (name : Name) → set name ≡ true
      → counts (kept_named s set) name ≡ counts s name
  kept_counts s set name has = grind (arith, counts-kept_named s set name)

module _ (begins : Name → Bool) (family : List Entry) (names : List Name) (is : IsReachedSet begins family names) where
  -- a name at which the collection begins is reached
  pub start_kept : (name : Name) → begins name ≡ true → has names name ≡ true
  start_kept name starts = (is.reached name).1 ([], starts)

  -- a child of a reached name, where it has an entry
  pub child_kept : (parent name : Name) → has names parent ≡ true
      → has (children_in family parent) name ≡ true → is_entry family name ≡ true
      → has names name ≡ true
  child_kept parent name kept child there =
      let path = (is.reached parent).0 kept in
      (is.reached name).1 (parent ∷ path.0, (there, child, path.1))

module _ (listed : List Name) (family : List Entry) (names : List Name) (is : IsReachedSet (starts_with listed family) family names) where
  -- a root with an entry is reached
  pub root_kept : (name : Name) → has listed name ≡ true → is_entry family name ≡ true
      → has names name ≡ true
  root_kept name among there =
      start_kept (starts_with listed family) family names is name
      (or_right (starts family name) _ (and_from _ _ there among))

  -- a counted name
  pub counted_kept : (name : Name) → starts family name ≡ true → has names name ≡ true
  counted_kept name counted =
      start_kept (starts_with listed family) family names is name
      (or_left (starts family name) _ counted)

-- a root reads what it read, also where that is nothing
pub root_reads : {V : Type 0} (children : V → List Name) (s : State V) (family : List Entry)
    (listed names : List Name) → IsReachedSet (starts_with listed family) family names
    → (name : Name) → has listed name ≡ true
    → (is_entry (entries_of children s) name ≡ true → is_entry family name ≡ true)
    → reads (kept_named s (has names)) name ≡ reads s name
root_reads children s family listed names is name among part =
    let kept = root_kept listed family names is name among in
    grind (arith, kept, part, entry_read children s name, reads-kept_named s (has names) name)

-- ---- a storage within a pair of families: what is known of its part is known of the whole

module _ (xs ys : List Entry) (name : Name) where
  -- an entry of a part is one of both
  pub entry_first : is_entry xs name ≡ true → is_entry (xs ++ ys) name ≡ true
  entry_first there = is_either xs ys name ∙ or_left _ _ there

  pub entry_second : is_entry ys name ≡ true → is_entry (xs ++ ys) name ≡ true
  entry_second there = is_either xs ys name ∙ or_right (is_entry xs name) _ there

  -- a counted entry of the first part is counted in both, and declares what it did
  pub counted_first : starts xs name ≡ true → starts (xs ++ ys) name ≡ true
  counted_first counted = grind (arith, in_first xs ys name)

  pub children_first : is_entry xs name ≡ true
      → children_in (xs ++ ys) name ≡ children_in xs name
  children_first there = ap children_of (in_first xs ys name there)

  -- and so is one of the second, as no storage of the first has its number
  module _ (ns ms : List ℕ) (numbered : (x : Name) → is_entry xs x ≡ true → has_number ns x.storage ≡ true) (apart : are_distinct (ns ++ ms) ≡ true) (home : has_number ms name.storage ≡ true) where
    in_second_alone : entry_of (xs ++ ys) name ≡ entry_of ys name
    in_second_alone =
        in_second xs ys name (ap is_some (none_in_first xs ns ms numbered apart name home))

    pub counted_second : starts ys name ≡ true → starts (xs ++ ys) name ≡ true
    counted_second counted = ap counted_entry in_second_alone ∙ counted

    pub children_second : children_in (xs ++ ys) name ≡ children_in ys name
    children_second = ap children_of in_second_alone
