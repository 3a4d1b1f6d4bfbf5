-- Walks over values that share parts, with a list of what is ahead and a set of what was met.
use Rattle.std.proofs.Common.{◌≡◌, ◌↔◌, ℕ, ◌+◌, ◌<◌, ◌≤◌, Bool, true, false, not, cond, ◌||◌, List, [], ◌∷◌, ◌++◌, map, length, Some, None, IsSome, is_some, refl, sym, ap, subst, ◌∙◌, arith}
use Rattle.std.specs.Bool.{MatchBool}
use Rattle.std.specs.List.{list_any}
use Rattle.std.specs.List.Sorted.{IsPermutation}
use Rattle.std.proofs.lemmas.Bool.{and_from, and_parts, or_left, or_right}
use Rattle.std.proofs.lemmas.List.{length-append}
use Rattle.std.proofs.lemmas.List.Sorted.{list_any-IsPermutation}
use Rattle.intern_marks.proofs.Names.{has_append, same_as_itself}
use Rattle.intern_store.proofs.Named.{names_same}
use Rattle.ra_ap_intern.specs.Families.{entries_of}
use Rattle.ra_ap_intern.specs.Handle.{ref_name}
use Rattle.ra_ap_intern.specs.Name.{Name}
use Rattle.ra_ap_intern.specs.Named.{same_name}
use Rattle.ra_ap_intern.specs.Names.{has}
use Rattle.ra_ap_intern.specs.Reach.{Entry, IsPath, entry_of, children_of}
use Rattle.ra_ap_intern.specs.State.{State, reads}
use Rattle.ra_ap_intern.specs.Walks.{children_left, begins_walk, IsWithin, IsWalk, turns_left}
use Rattle.ra_ap_intern.specs.declared.storage.Ref.{Ref}
use Rattle.ra_ap_intern.proofs.CallerCollections.{entry_read, children_read}
use Rattle.ra_ap_intern.proofs.CallerCounts.{has_last, names_pushed}
use Rattle.ra_ap_intern.proofs.CallerReads.{some_read}
use Rattle.ra_ap_intern.proofs.CallerRoots.{has_front, has_back}
use Rattle.ra_ap_intern.proofs.CallerViews.{handles_tested}

-- ---- a walk by names

-- a list has this name more
abbrev pub HasAlso : List Name → List Name → Name → Type 0
HasAlso old new p = (n : Name) → has new n ≡ (same_name n p || has old n)

-- what is there when the last of what was ahead gives way
there_on : (all rest ahead met now : List Name) (p n : Name) → all ≡ rest ++ p ∷ []
    → (has rest n ≡ true → has ahead n ≡ true) → (has met n ≡ true → has now n ≡ true)
    → (n ≡ p → has now p ≡ true) → (has all n || has met n) ≡ true
    → (has ahead n || has now n) ≡ true
there_on all rest ahead met now p n last aheads meets here there =
    go (has rest n) (same_name n p) (has met n) refl refl refl
    (sym (ap (λ xs. has xs n || has met n) last ∙ ap (λ b. b || has met n) (has_append rest (p ∷ []) n)) ∙ there)
  where
    go : (a b c : Bool) → has rest n ≡ a → same_name n p ≡ b → has met n ≡ c
        → ((has rest n || (same_name n p || false)) || has met n) ≡ true
        → (has ahead n || has now n) ≡ true
    go true b c is same listed any = or_left _ _ (aheads is)
    go false true c is same listed any =
        let one = names_same n p same in
        or_right _ _ (ap (has now) one ∙ here one)
    go false false true is same listed any = or_right _ _ (meets listed)
    go false false false is same listed any = grind arith

module _ {V : Type 0} (children : V → List Name) (s : State V) where
  -- a root that is read is within
  pub within_root : (roots : List Name) (n : Name) → has roots n ≡ true → IsSome (reads s n)
      → IsWithin children s roots n
  within_root roots n listed is = ([], and_from _ _ is listed)

  -- and so is a child of what is within, if it is read
  pub within_child : (roots : List Name) (parent n : Name) (v : V)
      → IsWithin children s roots parent → reads s parent ≡ Some v → has (children v) n ≡ true
      → IsSome (reads s n) → IsWithin children s roots n
  within_child roots parent n v path read listed is = (
    parent ∷ path.0,
    (
      entry_read children s n ∙ is,
      ap (λ names. has names n) (children_read children s parent v read) ∙ listed,
      path.1,
    ),
  )

  -- what is within is read
  path_read : (roots before : List Name) (n : Name)
      → IsPath (begins_walk children s roots) (entries_of children s) before n
      → IsSome (reads s n)
  path_read roots [] n is = (and_parts _ _ is).0
  path_read roots (parent ∷ before) n is = sym (entry_read children s n) ∙ is.0

  pub within_read : (roots : List Name) (n : Name) → IsWithin children s roots n
      → IsSome (reads s n)
  within_read roots n path = path_read roots path.0 n path.1

  -- ---- what a walk keeps

  -- it begins with all its roots ahead, and nothing met
  pub walk_begun : (roots : List Name) → IsWalk children s roots roots []
  walk_begun roots = record {
    met_within = λ n met. absurd (cc);
    ahead_within = within_root roots;
    roots_there = λ n listed is. or_left _ _ listed;
    children_there = λ parent n v met. absurd (cc);
  }

  module _ (roots all rest met : List Name) (p : Name) (last : all ≡ rest ++ p ∷ [])
      (walk : IsWalk children s roots all met) where
    last_ahead : has all p ≡ true
    last_ahead = ap (λ xs. has xs p) last ∙ has_last rest p

    rest_ahead : (n : Name) → has rest n ≡ true → has all n ≡ true
    rest_ahead n is = ap (λ xs. has xs n) last ∙ has_front rest (p ∷ []) n is

    -- what isn't read, or was met, is passed over
    pub walk_passed : (IsSome (reads s p) → has met p ≡ true) → IsWalk children s roots rest met
    walk_passed here = record {
      met_within = walk.met_within;
      ahead_within = λ n is. walk.ahead_within n (rest_ahead n is);
      roots_there = λ n listed is. on n is (walk.roots_there n listed is);
      children_there = λ parent n v among read listed is.
          on n is (walk.children_there parent n v among read listed is);
    }
      where
        on : (n : Name) → IsSome (reads s n) → (has all n || has met n) ≡ true
            → (has rest n || has met n) ≡ true
        on n is =
            there_on all rest rest met met p n last (λ h. h) (λ h. h)
            (λ same. here (subst (λ m. IsSome (reads s m)) same is))

    -- what is met for the first time has its children ahead then, in any order
    pub walk_met : (more now : List Name) (v : V) → reads s p ≡ Some v
        → ((n : Name) → has more n ≡ has (children v) n) → HasAlso met now p
        → IsWalk children s roots (rest ++ more) now
    walk_met more now v read same also = record {
      met_within = λ n is. met_cases n is (IsWithin children s roots n)
          (λ one. subst (IsWithin children s roots) (sym one) within) (walk.met_within n);
      ahead_within = λ n ahead is. ahead_cases n ahead (IsWithin children s roots n)
          (λ earlier. walk.ahead_within n (rest_ahead n earlier) is)
          (λ child. within_child roots p n v within read child is);
      roots_there = λ n listed is. on n (walk.roots_there n listed is);
      children_there = λ parent n w among read' listed is.
          met_cases parent among ((has (rest ++ more) n || has now n) ≡ true)
          (λ one. or_left _ _ (is_ahead n (below parent w one read' n listed)))
          (λ earlier. on n (walk.children_there parent n w earlier read' listed is));
    }
      where
        within : IsWithin children s roots p
        within = walk.ahead_within p last_ahead (ap is_some read)

        met_cases : (n : Name) → has now n ≡ true → (P : Type 0) → (n ≡ p → P)
            → (has met n ≡ true → P) → P
        met_cases n is P one earlier = go (same_name n p) refl (sym (also n) ∙ is)
          where
            go : (t : Bool) → same_name n p ≡ t → (t || has met n) ≡ true → P
            go true at among = one (names_same n p at)
            go false at among = earlier among

        ahead_cases : (n : Name) → has (rest ++ more) n ≡ true → (P : Type 0)
            → (has rest n ≡ true → P) → (has (children v) n ≡ true → P) → P
        ahead_cases n is P earlier child = go (has rest n) refl (sym (has_append rest more n) ∙ is)
          where
            go : (t : Bool) → has rest n ≡ t → (t || has more n) ≡ true → P
            go true at among = earlier at
            go false at among = child (sym (same n) ∙ among)

        is_ahead : (n : Name) → has (children v) n ≡ true → has (rest ++ more) n ≡ true
        is_ahead n is = has_back rest more n (same n ∙ is)

        below : (parent : Name) (w : V) → parent ≡ p → reads s parent ≡ Some w → (n : Name)
            → has (children w) n ≡ true → has (children v) n ≡ true
        below parent w one read' n is =
            let two : Some w ≡ Some v = sym read' ∙ ap (reads s) one ∙ read in
            grind (arith, two)

        on : (n : Name) → (has all n || has met n) ≡ true
            → (has (rest ++ more) n || has now n) ≡ true
        on n =
            there_on all rest (rest ++ more) met now p n last
            (has_front rest more n)
            (λ is. also n ∙ or_right _ _ is)
            (λ one. also p ∙ or_left _ _ (same_as_itself p))

  -- where nothing is ahead, just what is within was met
  pub walk_ended : (roots ahead met : List Name) → ahead ≡ []
      → IsWalk children s roots ahead met → (n : Name)
      → (has met n ≡ true) ↔ IsWithin children s roots n
  walk_ended roots ahead met none walked n = (
    walked.met_within n,
    λ path. along (subst (λ xs. IsWalk children s roots xs met) none walked) path.0 n path.1,
  )
    where
      along : IsWalk children s roots [] met → (before : List Name) (m : Name)
          → IsPath (begins_walk children s roots) (entries_of children s) before m
          → has met m ≡ true
      along walk [] m is = let both = and_parts _ _ is in walk.roots_there m both.1 both.0
      along walk (parent ∷ before) m is =
          let v = some_read (reads s parent) (path_read roots before parent is.2) in
          walk.children_there parent m v.0 (along walk before parent is.2) v.1
          (sym (ap (λ names. has names m) (children_read children s parent v.0 v.1)) ∙ is.1)
          (sym (entry_read children s m) ∙ is.0)

  -- ---- a walk ends

  -- what is passed over takes a turn
  pub passed_turns : (all rest met : List Name) (p : Name) → all ≡ rest ++ p ∷ []
      → turns_left children s rest met < turns_left children s all met
  passed_turns all rest met p last =
      let one = ap length last ∙ length-append rest (p ∷ []) in omega (arith, one)

  -- and so does what is met for the first time
  pub met_turns : (all rest met more now : List Name) (p : Name) (v : V) → all ≡ rest ++ p ∷ []
      → reads s p ≡ Some v → has met p ≡ false → HasAlso met now p
      → length more ≡ length (children v)
      → turns_left children s (rest ++ more) now < turns_left children s all met
  met_turns all rest met more now p v last read first also size =
      let e = some_read (entry_of family p) (entry_read children s p ∙ ap is_some read) in
      let same : e.0.children ≡ children v =
      sym (ap children_of e.1) ∙ children_read children s p v read in
      let fewer = left_fewer family e.0 e.1 in
      let sizes = ap length same in
      let one = ap length last ∙ length-append rest (p ∷ []) in
      let two = length-append rest more in
      omega (arith, fewer, sizes, size, one, two)
    where
      family : List Entry
      family = entries_of children s

      left_of : Bool → Entry → ℕ
      left_of t e = cond t 0 (length e.children)

      grows : (e : Entry) → left_of (has now e.name) e ≤ left_of (has met e.name) e
      grows e = go (has met e.name) (has now e.name) (λ is. also e.name ∙ or_right _ _ is)
        where
          go : (a b : Bool) → (a ≡ true → b ≡ true) → left_of b e ≤ left_of a e
          go true true on = omega arith
          go true false on = let no = on refl in absurd (cc)
          go false true on = omega arith
          go false false on = omega arith

      left_less : (es : List Entry) → children_left now es ≤ children_left met es
      left_less [] = omega arith
      left_less (e ∷ es) = let one = grows e in let rest = left_less es in omega (arith, one, rest)

      left_fewer : (es : List Entry) (e : Entry) → entry_of es p ≡ Some e
          → children_left now es + length e.children ≤ children_left met es
      left_fewer [] e at = absurd (cc)
      left_fewer (d ∷ es) e at = go (same_name p d.name) refl at (left_fewer es e)
        where
          go : (t : Bool) → same_name p d.name ≡ t → cond t (Some d) (entry_of es p) ≡ Some e
              → (entry_of es p ≡ Some e
              → children_left now es + length e.children ≤ children_left met es)
              → children_left now (d ∷ es) + length e.children ≤ children_left met (d ∷ es)
          go true same is later =
              let name = names_same p d.name same in
              let old : left_of (has met d.name) d ≡ length d.children =
              ap (λ m. left_of (has met m) d) (sym name) ∙ ap (λ t. left_of t d) first in
              let new : left_of (has now d.name) d ≡ 0 =
              ap (λ m. left_of (has now m) d) (sym name)
              ∙ ap (λ t. left_of t d) (also p ∙ or_left _ _ (same_as_itself p)) in
              let size : length d.children ≡ length e.children = grind (arith, is) in
              let rest = left_less es in
              omega (arith, old, new, size, rest)
          go false same is later =
              let one = grows d in let rest = later is in omega (arith, one, rest)

-- ---- a walk by references: a list of those ahead, and a set of those met

module _ {K : Type 0} where
  named_any : (keys : List (Ref K)) (n : Name)
      → has (map ref_name keys) n ≡ list_any (λ r. same_name n (ref_name r)) keys
  named_any [] n = refl
  named_any (k ∷ keys) n = ap (λ b. same_name n (ref_name k) || b) (named_any keys n)

  -- a set has a reference exactly if it has its name
  pub set_named : (eq : Ref K → Ref K → Bool)
      → ((a b : Ref K) → (eq a b ≡ true) ↔ (ref_name a ≡ ref_name b)) → (keys : List (Ref K))
      (p : Ref K) → list_any (eq p) keys ≡ has (map ref_name keys) (ref_name p)
  set_named eq alike [] p = refl
  set_named eq alike (k ∷ keys) p =
      λ i. handles_tested eq ref_name alike p k i || set_named eq alike keys p i

-- what isn't read is passed over
pub walk_unread : {K V : Type 0} (children : V → List Name) (s : State V) (roots met : List Name)
    (all rest : List (Ref K)) (p : Ref K) → all ≡ rest ++ p ∷ [] → reads s (ref_name p) ≡ None
    → IsWalk children s roots (map ref_name all) met
    → IsWalk children s roots (map ref_name rest) met
walk_unread children s roots met all rest p last none walk =
    walk_passed children s roots _ _ met _ (names_pushed ref_name rest all p last) walk
    (λ is. grind (arith, none, is))

module _ {K V : Type 0} (children : V → List Name) (s : State V) (eq : Ref K → Ref K → Bool)
    (alike : (a b : Ref K) → (eq a b ≡ true) ↔ (ref_name a ≡ ref_name b))
    (all rest met now : List (Ref K)) (p : Ref K) (added : Bool) (last : all ≡ rest ++ p ∷ [])
    (new : added ≡ not (list_any (eq p) met))
    (puts : MatchBool added (IsPermutation (p ∷ met) now) (now ≡ met)) where
  -- what the set has already is passed over
  pub walk_again : (roots : List Name) → added ≡ false
      → IsWalk children s roots (map ref_name all) (map ref_name met)
      → IsWalk children s roots (map ref_name rest) (map ref_name now)
  walk_again roots old walk =
      let same = subst (λ t. MatchBool t (IsPermutation (p ∷ met) now) (now ≡ met)) old puts in
      let was : has (map ref_name met) (ref_name p) ≡ true = grind (arith, set_named eq alike met p, new, old) in
      subst (λ keys. IsWalk children s roots (map ref_name rest) (map ref_name keys)) (sym same)
      (walk_passed children s roots _ _ _ _ (names_pushed ref_name rest all p last) walk (λ _. was))

  module _ (added_now : added ≡ true) where
    has_also : HasAlso (map ref_name met) (map ref_name now) (ref_name p)
    has_also n =
        named_any now n
        ∙ sym (list_any-IsPermutation (λ r. same_name n (ref_name r)) (p ∷ met) now
        (subst (λ t. MatchBool t (IsPermutation (p ∷ met) now) (now ≡ met)) added_now puts))
        ∙ sym (ap (λ b. same_name n (ref_name p) || b) (named_any met n))

    -- what it hasn't is met, and its children are ahead
    pub walk_on : (roots : List Name) (v : V) (ahead : List Name) → reads s (ref_name p) ≡ Some v
        → ahead ≡ map ref_name rest ++ children v
        → IsWalk children s roots (map ref_name all) (map ref_name met)
        → IsWalk children s roots ahead (map ref_name now)
    walk_on roots v ahead read more walk =
        subst (λ names. IsWalk children s roots names (map ref_name now)) (sym more)
        (walk_met children s roots _ _ _ _ (names_pushed ref_name rest all p last) walk (children v) _ v read
        (λ n. refl) has_also)

    -- which takes a turn
    pub turns_on : (v : V) (ahead : List Name) → reads s (ref_name p) ≡ Some v
        → ahead ≡ map ref_name rest ++ children v
        → turns_left children s ahead (map ref_name now)
        < turns_left children s (map ref_name all) (map ref_name met)
    turns_on v ahead read more =
        subst (λ names. turns_left children s names (map ref_name now)
        < turns_left children s (map ref_name all) (map ref_name met)) (sym more)
        (met_turns children s _ _ _ (children v) _ (ref_name p) v (names_pushed ref_name rest all p last) read
        (grind (arith, set_named eq alike met p, new, added_now)) has_also refl)
