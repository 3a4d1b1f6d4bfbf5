-- Storages whose values declare earlier ones: what keeps that, and the lines of values that lead up
-- from a name.
use Rattle.std.proofs.Common.{◌≡◌, ◌↔◌, ℕ, zero, suc, ◌<◌, Bool, true, List, [], ◌∷◌, ◌++◌, Option, Some, None, IsSome, is_some, option_and_then, Result, refl, sym, ap, ◌∙◌, append_assoc, arith}
use Rattle.std.specs.FinMap.{get-empty}
use Rattle.std.specs.List.{last_or}
use Rattle.std.specs.Option.{option_map}
use Rattle.std.specs.declared.alloc.AllocError.{AllocError}
use Rattle.std.proofs.lemmas.Bool.{or_cases}
use Rattle.std.proofs.lemmas.Bool.Decides.{nat_tests}
use Rattle.ra_ap_intern.specs.Families.{entries_of, kept_named}
use Rattle.ra_ap_intern.specs.Name.{Name}
use Rattle.ra_ap_intern.specs.Named.{same_name}
use Rattle.ra_ap_intern.specs.Names.{has}
use Rattle.ra_ap_intern.specs.Order.{IsBefore, Falls, IsBuilt, due_parent, due_each, line_from, line_at, line_within, line, line_end, end_from, line_rest, steps_left}
use Rattle.ra_ap_intern.specs.Reach.{Entry, IsReachedSet, IsPath, Reached}
use Rattle.ra_ap_intern.specs.State.{State, IsState, new_state, name_in, reads, counted_up, counted_down, taken, released, interned, interned_counted}
use Rattle.ra_ap_intern.specs.Visitors.{of_name}
use Rattle.ra_ap_intern.specs.declared.gc.Collected.{Collected}
use Rattle.intern_store.proofs.Compared.{get-removed}
use Rattle.intern_store.proofs.Named.{names_same, same_names}
use Rattle.ra_ap_intern.proofs.CallerCollections.{child_kept, children_read, entry_read, kept_reads, kept_was_read, reads-kept_named}
use Rattle.ra_ap_intern.proofs.CallerInterning.{interned_new_or_read}
use Rattle.ra_ap_intern.proofs.CallerReads.{read_at, read_due, read_below, read_once, some_read, counted_up_reads, counted_down_reads, interned_reads_on, released_either}
use Rattle.ra_ap_intern.proofs.CallerViews.{CollectsOne, one_collected}

-- what is kept keeps all that paths of declared children reach from it
pub behind_kept : (begins : Name → Bool) (family : List Entry) (names : List Name)
    → IsReachedSet begins family names → (name : Name) → has names name ≡ true → (m : Name)
    → Reached (same_name name) family m → has names m ≡ true
behind_kept begins family names is name kept m path = go path.0 m path.1
  where
    go : (before : List Name) (n : Name) → IsPath (same_name name) family before n
        → has names n ≡ true
    go [] n here = ap (has names) (sym (names_same name n here)) ∙ kept
    go (parent ∷ before) n p =
        child_kept begins family names is parent n (go before parent p.2) p.1 p.0

-- a parent is declared
pub parent_declared : (o : Option Name) (name : Name) → o ≡ Some name → has (of_name o) name ≡ true
parent_declared o name is = grind (arith, same_names name name refl)

-- where nothing is due of a parent, it is read
pub parent_read : {V : Type 0} (s : State V) (o : Option Name) → due_parent s o ≡ None
    → (name : Name) → has (of_name o) name ≡ true → IsSome (reads s name)
parent_read s None free name declared = absurd (cc)
parent_read s (Some parent) free name declared = grind (arith, names_same name parent, read_due s parent free)

-- where nothing is due of several, each is read
pub each_read : {V : Type 0} (s : State V) (names : List Name) → due_each s names ≡ None
    → (name : Name) → has names name ≡ true → IsSome (reads s name)
each_read s [] free name among = absurd (cc)
each_read s (first ∷ names) free name among =
    grind (arith, names_same name first, read_due s first, each_read s names, or_cases (same_name name first) (has names name))

module _ {V : Type 0} where
  new_reads : (number top numbers : ℕ) (name : Name)
      → ◌≡◌ {A = Option V} (reads (new_state number top numbers) name) None
  new_reads number top numbers name = grind (arith, get-empty)

  -- what is read is before all that is interned later
  pub read_before : (eq : V → V → Bool) (s : State V) → IsState eq s → (name : Name)
      → IsSome (reads s name) → IsBefore name (name_in s s.next)
  read_before eq s ok name is =
      let v = some_read _ is in
      record { storage = (read_at s name v.0 v.1).home; birth = read_below eq s ok name is }

  -- what is read after an entry was taken out was read
  taken_was_read : (s : State V) (b : ℕ) (name : Name) (v : V) → reads (taken s b) name ≡ Some v
      → reads s name ≡ Some v
  taken_was_read s b name v read = grind (arith, nat_tests, get-removed s.map b name.birth)

-- ---- the line that leads up from a name

module _ {X : Type 0} where
  from_some : (x : X) (f : Name → Option (List X)) (p : Option Name)
      → ((m : Name) → p ≡ Some m → IsSome (f m)) → IsSome (line_from x f p)
  from_some x f p some = grind (arith, some)

module _ {V X : Type 0} (parent : V → Option Name) (see : V → X) where
  at_same : (f g : Name → Option (List X)) (o : Option V)
      → ((v : V) (m : Name) → o ≡ Some v → parent v ≡ Some m → f m ≡ g m)
      → line_at parent see f o ≡ line_at parent see g o
  at_same f g o same = grind (arith, same)

  -- a line has a first value
  is_line : (f : Name → Option (List X)) (o : Option V) (xs : List X)
      → line_at parent see f o ≡ Some xs
      → (v : V) × (o ≡ Some v) × (line_from (see v) f (parent v) ≡ Some xs)
  is_line f None xs is = absurd (cc)
  is_line f (Some v) xs is = (v, refl, is)

  -- a line has a value
  not_empty : (s : State V) (k : ℕ) (name : Name) → line_within parent see s k name ≡ Some [] → ⊥
  not_empty s zero name is = absurd (cc)
  not_empty s (suc k) name is = grind arith

  within_none : (s : State V) (k : ℕ) (name : Name) → reads s name ≡ None
      → line_within parent see s k name ≡ None
  within_none s zero name none = refl
  within_none s (suc k) name none = ap (line_at parent see (line_within parent see s k)) none

  -- where nothing is read there is none
  pub line_none : (s : State V) (name : Name) → reads s name ≡ None → line parent see s name ≡ None
  unfolding line
  line_none s name = within_none s (suc name.birth) name

  -- of a value without a parent it is that alone
  pub line_top : (s : State V) (name : Name) (v : V) → reads s name ≡ Some v → parent v ≡ None
      → line parent see s name ≡ Some (see v ∷ [])
  unfolding line
  line_top s name v read top = grind (arith, read, top)

  -- and nothing is at its end
  pub end_none : (s : State V) (name : Name) → reads s name ≡ None
      → line_end parent see s name ≡ None
  end_none s name none = ap (option_and_then (last_or None)) (line_none s name none)

  -- a loop that begins at a name has its line ahead
  pub rest_begun : (s : State V) (name : Name)
      → line_rest parent see s [] (Some name) ≡ line parent see s name
  rest_begun s name = grind arith

  -- and ends in none where nothing is read
  pub rest_none : (s : State V) (xs : List X) (name : Name) → reads s name ≡ None
      → line_rest parent see s xs (Some name) ≡ None
  rest_none s xs name none = ap (option_map (λ ys. xs ++ ys)) (line_none s name none)

  -- it stays where what is read stays
  pub line_on : (s t : State V)
      → ((name : Name) (v : V) → reads s name ≡ Some v → reads t name ≡ Some v)
      → (name : Name) (xs : List X) → line parent see s name ≡ Some xs
      → line parent see t name ≡ Some xs
  unfolding line
  line_on s t on name = within (suc name.birth) name
    where
      within : (k : ℕ) (n : Name) (xs : List X) → line_within parent see s k n ≡ Some xs
          → line_within parent see t k n ≡ Some xs
      within zero n xs is = absurd (cc)
      within (suc k) n xs is = grind (arith, on n, within k)

module _ {V X : Type 0} (children : V → List Name) (parent : V → Option Name) (see : V → X) (declares : (v : V) (name : Name) → parent v ≡ Some name → has (children v) name ≡ true) (s : State V) (falls : Falls children s) where
  -- more steps than births add nothing
  enough : (k l : ℕ) (name : Name) → name.birth < k → name.birth < l
      → line_within parent see s k name ≡ line_within parent see s l name
  enough zero l name lt more = absurd (omega arith)
  enough (suc k) zero name lt more = absurd (omega arith)
  enough (suc k) (suc l) name lt more =
      at_same parent see _ _ (reads s name) (λ v m at is.
      let below = (falls name m v at (declares v m is)).birth in
      enough k l m (omega arith) (omega arith))

  -- of a value with a parent it is that, followed by the parent's
  pub line_up : (name above : Name) (v : V) → reads s name ≡ Some v → parent v ≡ Some above
      → line parent see s name ≡ option_map (λ xs. see v ∷ xs) (line parent see s above)
  unfolding line
  line_up name above v read is =
      let below = (falls name above v read (declares v above is)).birth in
      ap (line_at parent see (line_within parent see s name.birth)) read
      ∙ ap (line_from (see v) (line_within parent see s name.birth)) is
      ∙ ap (option_map (λ xs. see v ∷ xs))
      (enough name.birth (suc above.birth) above below (omega arith))

  -- so that a loop that keeps what it saw last, and nothing before it, has the end of all at its
  -- end
  pub end_up : (name : Name) (v : V) → reads s name ≡ Some v
      → line_end parent see s name ≡ end_from (see v) (line_end parent see s) (parent v)
  unfolding line
  end_up name v read = go (parent v) refl
    where
      same : (l : Option (List X)) → (l ≡ Some [] → ⊥)
          → option_and_then (last_or None) (option_map (λ xs. see v ∷ xs) l)
          ≡ option_and_then (last_or None) l
      same None some = refl
      same (Some []) some = absurd (some refl)
      same (Some (x ∷ xs)) some = refl

      go : (p : Option Name) → parent v ≡ p
          → line_end parent see s name ≡ end_from (see v) (line_end parent see s) p
      go None is = ap (option_and_then (last_or None)) (line_top parent see s name v read is)
      go (Some above) is =
          ap (option_and_then (last_or None)) (line_up name above v read is)
          ∙ same (line_within parent see s (suc above.birth) above)
          (not_empty parent see s (suc above.birth) above)

  -- so that a loop has fewer steps left at the parent, and ends
  pub steps_fewer : (name : Name) (v : V) → reads s name ≡ Some v
      → steps_left (parent v) < steps_left (Some name)
  steps_fewer name v read =
      grind (
        arith,
        (λ (above : Name) (is : parent v ≡ Some above).
            (falls name above v read (declares v above is)).birth),
      )

  -- and what it has seen and what is ahead stay one line
  pub rest_up : (xs : List X) (name : Name) (v : V) → reads s name ≡ Some v
      → line_rest parent see s xs (Some name)
      ≡ line_rest parent see s (xs ++ (see v ∷ [])) (parent v)
  rest_up xs name v read = go (parent v) refl
    where
      go : (p : Option Name) → parent v ≡ p → line_rest parent see s xs (Some name)
          ≡ line_rest parent see s (xs ++ (see v ∷ [])) p
      go None is = ap (option_map (λ ys. xs ++ ys)) (line_top parent see s name v read is)
      go (Some above) is =
          grind (arith, line_up name above v read is, append_assoc {A = X} xs (see v ∷ []))

  -- there is one of all that is read
  pub line_read : IsBuilt children s → (name : Name) → IsSome (reads s name)
      → IsSome (line parent see s name)
  unfolding line
  line_read built name = within (suc name.birth) name (omega arith)
    where
      within : (k : ℕ) (n : Name) → n.birth < k → IsSome (reads s n)
          → IsSome (line_within parent see s k n)
      within zero n lt is = absurd (omega arith)
      within (suc k) n lt is =
          let v = some_read (reads s n) is in
          ap (λ o. is_some (line_at parent see (line_within parent see s k) o)) v.1
          ∙ from_some (see v.0) (line_within parent see s k) (parent v.0) (λ m at.
          let declared = declares v.0 m at in
          let below = (falls n m v.0 v.1 declared).birth in
          within k m (omega arith) (built.stands n m v.0 v.1 declared))

-- values are equal exactly if they have the same parent, and the same is seen of them
module _ {V X : Type 0} (eq : V → V → Bool) (parent : V → Option Name) (see : V → X) (alike : (v w : V) → (eq v w ≡ true) ↔ ((parent v ≡ parent w) × (see v ≡ see w))) (s : State V) (ok : IsState eq s) where
  one_name : (k l : ℕ) (n m : Name) (xs : List X) → line_within parent see s k n ≡ Some xs
      → line_within parent see s l m ≡ Some xs → n ≡ m
  one_name zero l n m xs a b = absurd (cc)
  one_name (suc k) zero n m xs a b = absurd (cc)
  one_name (suc k) (suc l) n m xs a b =
      let v = is_line parent see (line_within parent see s k) (reads s n) xs a in
      let w = is_line parent see (line_within parent see s l) (reads s m) xs b in
      grind (
        arith,
        v.2,
        w.2,
        not_empty parent see s k,
        not_empty parent see s l,
        one_name k l,
        alike v.0 w.0,
        read_once eq s ok n m v.0 w.0 v.1 w.1,
      )

  -- names are equal exactly if their lines are, where there is one
  pub lines_tell : (n m : Name) → IsSome (line parent see s n)
      → (n ≡ m) ↔ (line parent see s n ≡ line parent see s m)
  unfolding line
  lines_tell n m there =
      let xs = some_read (line parent see s n) there in (
        ap (line parent see s),
        λ same. one_name (suc n.birth) (suc m.birth) n m xs.0 xs.1 (sym same ∙ xs.1),
      )

module _ {V : Type 0} (children : V → List Name) where
  -- ---- children are before what declares them

  -- where no more is read
  pub falls_less : (s t : State V)
      → ((name : Name) (v : V) → reads t name ≡ Some v → reads s name ≡ Some v)
      → Falls children s → Falls children t
  falls_less s t was falls name child v read = falls name child v (was name v read)

  pub falls_new : (number top numbers : ℕ) → Falls children (new_state number top numbers)
  falls_new number top numbers name child v read declared =
      absurd (grind (arith, new_reads {V = V} number top numbers name))

  -- after an interning of a value whose children are before it
  pub falls_interned : (eq : V → V → Bool) (s : State V) (w : V) → Falls children s
      → ((child : Name) → has (children w) child ≡ true → IsBefore child (name_in s s.next))
      → Falls children (interned eq s w).state
  falls_interned eq s w falls before name child v read declared =
      grind (arith, interned_new_or_read eq s w name v read, before child, falls name child v)

  pub falls_counted_up : (s : State V) (b : ℕ) → Falls children s → Falls children (counted_up s b)
  falls_counted_up s b =
      falls_less s (counted_up s b) (λ name v read. sym (counted_up_reads s b name) ∙ read)

  pub falls_interned_counted : (eq : V → V → Bool) (s : State V) (w : V) → Falls children s
      → ((child : Name) → has (children w) child ≡ true → IsBefore child (name_in s s.next))
      → Falls children (interned_counted eq s w)
  falls_interned_counted eq s w falls before =
      falls_counted_up (interned eq s w).state (interned eq s w).birth
      (falls_interned eq s w falls before)

  pub falls_counted_down : (s : State V) (b : ℕ) → Falls children s
      → Falls children (counted_down s b)
  falls_counted_down s b =
      falls_less s (counted_down s b) (λ name v read. sym (counted_down_reads s b name) ∙ read)

  pub falls_taken : (s : State V) (b : ℕ) → Falls children s → Falls children (taken s b)
  falls_taken s b = falls_less s (taken s b) (taken_was_read s b)

  pub falls_released : (stays : Bool) (s : State V) (b : ℕ) → Falls children s
      → Falls children (released stays s b)
  falls_released stays s b falls =
      released_either (Falls children) stays s b (falls_taken s b falls)
      (falls_counted_down s b falls)

  pub falls_kept : (s : State V) (set : Name → Bool) → Falls children s
      → Falls children (kept_named s set)
  falls_kept s set =
      falls_less s (kept_named s set) (λ name v read. (kept_was_read s set name v read).1)

  -- ---- and are read too

  -- where the same is read
  pub built_same : (s t : State V) → ((name : Name) → reads t name ≡ reads s name)
      → IsBuilt children s → IsBuilt children t
  built_same s t same built = record {
    falls = falls_less s t (λ name v read. sym (same name) ∙ read) built.falls;
    stands = λ name child v read declared.
        grind (arith, same child, same name, built.stands name child v);
  }

  pub built_new : (number top numbers : ℕ) → IsBuilt children (new_state number top numbers)
  built_new number top numbers = record {
    falls = falls_new number top numbers;
    stands = λ name child v read declared. grind (arith, new_reads {V = V} number top numbers name);
  }

  -- after an interning of a value whose children are read
  pub built_interned : (eq : V → V → Bool) (s : State V) → IsState eq s → (w : V)
      → IsBuilt children s
      → ((child : Name) → has (children w) child ≡ true → IsSome (reads s child))
      → IsBuilt children (interned eq s w).state
  built_interned eq s ok w built there = record {
    falls = falls_interned eq s w built.falls
        (λ child declared. read_before eq s ok child (there child declared));
    stands = λ name child v read declared.
        grind (
          arith,
          interned_new_or_read eq s w name v read,
          there child,
          built.stands name child v,
          interned_reads_on eq s ok w child,
        );
  }

  pub built_counted_up : (s : State V) (b : ℕ) → IsBuilt children s
      → IsBuilt children (counted_up s b)
  built_counted_up s b = built_same s (counted_up s b) (counted_up_reads s b)

  pub built_interned_counted : (eq : V → V → Bool) (s : State V) → IsState eq s → (w : V)
      → IsBuilt children s
      → ((child : Name) → has (children w) child ≡ true → IsSome (reads s child))
      → IsBuilt children (interned_counted eq s w)
  built_interned_counted eq s ok w built there =
      built_counted_up (interned eq s w).state (interned eq s w).birth
      (built_interned eq s ok w built there)

  pub built_counted_down : (s : State V) (b : ℕ) → IsBuilt children s
      → IsBuilt children (counted_down s b)
  built_counted_down s b = built_same s (counted_down s b) (counted_down_reads s b)

  -- ---- a collection

  module _ (begins : Name → Bool) (s : State V) (names : List Name) (is : IsReachedSet begins (entries_of children s) names) where
    -- a child that is read is kept with what declares it
    pub declared_kept : (name child : Name) (v : V) → has names name ≡ true → reads s name ≡ Some v
        → has (children v) child ≡ true → IsSome (reads s child) → has names child ≡ true
    declared_kept name child v kept read declared there =
        child_kept begins (entries_of children s) names is name child kept
        (ap (λ ns. has ns child) (children_read children s name v read) ∙ declared)
        (entry_read children s child ∙ there)

    pub built_kept : IsBuilt children s → IsBuilt children (kept_named s (has names))
    built_kept built = record {
      falls = falls_kept s (has names) built.falls;
      stands = λ name child v read declared.
          let was = kept_was_read s (has names) name v read in
          grind (
            arith,
            was,
            built.stands name child v,
            declared_kept name child v,
            kept_reads s (has names) child,
          );
    }

    -- and so is the line that leads up from a name that is kept
    pub line_kept : {X : Type 0} (parent : V → Option Name) (see : V → X)
        → ((v : V) (name : Name) → parent v ≡ Some name → has (children v) name ≡ true)
        → (name : Name) → has names name ≡ true
        → line parent see (kept_named s (has names)) name ≡ line parent see s name
    unfolding line
    line_kept parent see declares name = within (suc name.birth) name
      where
        t : State V
        t = kept_named s (has names)

        parent_kept : (k : ℕ) (m : Name) → (IsSome (reads s m) → has names m ≡ true)
            → (has names m ≡ true → line_within parent see t k m ≡ line_within parent see s k m)
            → line_within parent see t k m ≡ line_within parent see s k m
        parent_kept k m too same =
            grind (
              arith,
              too,
              same,
              within_none parent see t k m,
              within_none parent see s k m,
              reads-kept_named s (has names) m,
            )

        within : (k : ℕ) (n : Name) → has names n ≡ true
            → line_within parent see t k n ≡ line_within parent see s k n
        within zero n kept = refl
        within (suc k) n kept =
            ap (line_at parent see (line_within parent see t k)) (kept_reads s (has names) n kept)
            ∙ at_same parent see _ _ (reads s n) (λ v m at is.
            parent_kept k m (declared_kept n m v kept at (declares v m is)) (within k m))

  -- what a collection leaves, or that it does nothing
  module _ (begins : Name → Bool) (s t : State V) (r : Result Collected AllocError) (is : CollectsOne children begins s t r) where
    pub falls_collected : Falls children s → Falls children t
    falls_collected falls =
        one_collected children begins s t r is (Falls children) falls
        (λ names set. falls_kept s (has names) falls)

    pub built_collected : IsBuilt children s → IsBuilt children t
    built_collected built =
        one_collected children begins s t r is (IsBuilt children) built
        (λ names set. built_kept begins s names set built)

    pub line_collected : {X : Type 0} (parent : V → Option Name) (see : V → X)
        → ((v : V) (name : Name) → parent v ≡ Some name → has (children v) name ≡ true)
        → (name : Name) → Reached begins (entries_of children s) name
        → line parent see t name ≡ line parent see s name
    line_collected parent see declares name path =
        one_collected children begins s t r is (λ f. line parent see f name ≡ line parent see s name) refl
        (λ names set. line_kept begins s names set parent see declares name ((set.reached name).1 path))
