-- What each change does to counts, and handles that are held.
use Rattle.std.proofs.Common.{◌≡◌, ℕ, zero, suc, ◌+◌, ◌-◌, ◌<◌, Bool, true, false, cond, ◌&&◌, List, [], ◌∷◌, ◌++◌, map as list_map, append-nil, Option, Some, None, IsSome, Result, Ok, Err, refl, sym, ap, ◌∙◌, arith}
use Rattle.std.specs.Cmp.{nat_cmp_total}
use Rattle.std.specs.FinMap as map
use Rattle.std.specs.FinMap.{get-empty, same_map, nat_cmp-IsAntisymmetric}
use Rattle.std.specs.List.Sorted.{IsPermutation}
use Rattle.std.specs.Option.{option_map, unwrap_or}
use Rattle.std.specs.Ordering.{nat_cmp}
use Rattle.std.specs.Result.{IsOk}
use Rattle.std.specs.Str.{bytes_eq}
use Rattle.std.proofs.lemmas.Bool.Decides.{nat_tests}
use Rattle.std.proofs.lemmas.List.{map-append}
use Rattle.std.proofs.lemmas.List.Elements.{filter_map-append}
use Rattle.std.proofs.lemmas.List.Sorted.{sum_by-IsPermutation}
use Rattle.std.proofs.lemmas.List.Sums.{sum_by-cons, sum_by_push}
use Rattle.intern_store.proofs.Births.{is_stored}
use Rattle.intern_store.proofs.Compared.{get-inserted, get-removed, get-modified, get-retained}
use Rattle.ra_ap_intern.specs.Families.{entries_of, kept_named}
use Rattle.ra_ap_intern.specs.Held.{times_held, times_counted, IsBalanced, IsCounted, emptied}
use Rattle.ra_ap_intern.specs.Kept.{Kept, recount}
use Rattle.ra_ap_intern.specs.Name.{Name}
use Rattle.ra_ap_intern.specs.Named.{same_name}
use Rattle.ra_ap_intern.specs.Names.{has}
use Rattle.ra_ap_intern.specs.Outcome.{OwesBack, Becomes}
use Rattle.ra_ap_intern.specs.Presets.{place_of}
use Rattle.ra_ap_intern.specs.Reach.{starts_with, IsReachedSet}
use Rattle.ra_ap_intern.specs.Refusal.{Refusal}
use Rattle.ra_ap_intern.specs.Refused.{Refused}
use Rattle.ra_ap_intern.specs.State.{State, IsState, new_state, name_in, entry_at, counts, reads, with_count, counted_up, counted_down, taken, added, or_added, is_new, birth_of, interned, interned_name, interned_counted, due, zero_count, is_last, released}
use Rattle.ra_ap_intern.specs.Symbols.{Named, entry_name, entry_names, symbol_at, symbol_in, due_of, at_entry}
use Rattle.ra_ap_intern.specs.Symbols.Named.{preset, entry}
use Rattle.ra_ap_intern.proofs.CallerCollections.{counted_starts, counts-kept_named, counted_kept}
use Rattle.ra_ap_intern.proofs.CallerReads.{read_at, is_there, counts-recounted, due_counted, released_either}

-- the last of a list is in it
pub has_last : (held : List Name) (n : Name) → has (held ++ n ∷ []) n ≡ true
has_last [] n = grind (arith, nat_tests)
has_last (m ∷ held) n = grind (arith, has_last held n)

-- the names of handles, where one more is behind them
pub names_pushed : {H : Type 0} (name : H → Name) (before now : List H) (handle : H)
    → now ≡ before ++ handle ∷ [] → list_map name now ≡ list_map name before ++ name handle ∷ []
names_pushed name before now handle is =
    ap (list_map name) is ∙ map-append name before (handle ∷ [])

-- what is in a list stands there once or more
some_held : (held : List Name) (n : Name) → has held n ≡ true → 0 < times_held held n
some_held [] n is = absurd (cc)
some_held (m ∷ held) n is =
    let sums = sum_by-cons (λ x. cond (same_name n x) 1 0) m held in
    let later = some_held held n in grind (arith, sums, later)

-- an empty storage counts nothing
pub balanced_new : (V : Type 0) (number top numbers : ℕ)
    → IsBalanced {V = V} (new_state number top numbers) []
balanced_new V number top numbers = λ n. grind (arith, get-empty {X = Kept V} nat_cmp n.birth)

-- and has no count zero
pub counted_new : (V : Type 0) (number top numbers : ℕ)
    → IsCounted {V = V} (new_state number top numbers)
counted_new V number top numbers = λ b k at. grind (arith, get-empty {X = Kept V} nat_cmp b)

module _ {V : Type 0} where
  -- ---- the count of each name after a change

  -- a new entry counts zero
  pub counts-added : (s : State V) (v : V) (n : Name)
      → counts (added s v) n ≡ cond (same_name n (name_in s s.next)) (Some 0) (counts s n)
  counts-added s v n =
      grind (arith, get-inserted s.map s.next (record { value = v; count = 0 }) n.birth)

  -- one more, or one less
  pub counts-counted_up : (s : State V) (b : ℕ) (n : Name)
      → counts (counted_up s b) n
      ≡ cond (same_name n (name_in s b)) (option_map (λ c. c + 1) (counts s n)) (counts s n)
  counts-counted_up s b n = counts-recounted (λ c. c + 1) s b n

  pub counts-counted_down : (s : State V) (b : ℕ) (n : Name)
      → counts (counted_down s b) n
      ≡ cond (same_name n (name_in s b)) (option_map (λ c. c - 1) (counts s n)) (counts s n)
  counts-counted_down s b n = counts-recounted (λ c. c - 1) s b n

  -- none, where the entry is taken out
  pub counts-taken : (s : State V) (b : ℕ) (n : Name)
      → counts (taken s b) n ≡ cond (same_name n (name_in s b)) None (counts s n)
  counts-taken s b n = grind (arith, nat_tests, get-removed s.map b n.birth)

  -- none, where a release is the last, and else one less
  pub counts-released : (stays : Bool) (s : State V) (b : ℕ) (n : Name)
      → counts (released stays s b) n
      ≡ cond (same_name n (name_in s b))
      (cond (is_last stays s b) None (option_map (λ c. c - 1) (counts s n))) (counts s n)
  counts-released stays s b n = go (is_last stays s b)
    where
      go : (t : Bool) → counts (cond t (taken s b) (counted_down s b)) n
          ≡ cond (same_name n (name_in s b))
          (cond t None (option_map (λ c. c - 1) (counts s n))) (counts s n)
      go true = counts-taken s b n
      go false = counts-counted_down s b n

  -- what is interned counts what it did, and zero where it is new
  pub counts-interned : (eq : V → V → Bool) (s : State V) (v : V) (n : Name)
      → counts (interned eq s v).state n
      ≡ cond (is_new eq s v && same_name n (interned_name eq s v)) (Some 0) (counts s n)
  counts-interned eq s v n = grind (arith, counts-added s v n)

  -- a birth that wasn't given counts nothing
  unborn : (eq : V → V → Bool) (s : State V) (n : Name) → IsState eq s
      → same_name n (name_in s s.next) ≡ true → counts s n ≡ None
  unborn eq s n ok is = grind (arith, nat_tests, ok.below s.next)

  -- and counted, one more than it did
  pub counts-interned_counted : (eq : V → V → Bool) (s : State V) (v : V) (n : Name)
      → IsState eq s
      → counts (interned_counted eq s v) n
      ≡ cond (same_name n (interned_name eq s v)) (Some (times_counted s n + 1)) (counts s n)
  counts-interned_counted eq s v n ok =
      counts-counted_up (interned eq s v).state (interned eq s v).birth n
      ∙ go (birth_of eq s v) refl
    where
      go : (o : Option ℕ) → birth_of eq s v ≡ o
          → let i = or_added o s v in
          cond (same_name n (name_in i.state i.birth))
          (option_map (λ c. c + 1) (counts i.state n)) (counts i.state n)
          ≡ cond (same_name n (name_in s i.birth)) (Some (times_counted s n + 1)) (counts s n)
      go (Some b) is = grind (arith, nat_tests, is_stored eq s v b is)
      go None is = grind (arith, nat_tests, counts-added s v n, unborn eq s n ok)

  -- ---- how often a name counts after a change, where no refusal is due

  at_home : (s : State V) (m : Name) → m.storage ≡ s.number → (n : Name)
      → same_name n (name_in s m.birth) ≡ same_name n m
  at_home s m home n = ap (λ k. same_name n (record { storage = k; birth = m.birth })) (sym home)

  -- one more at its name
  pub times_counted_up : (s : State V) (m n : Name) (test : ℕ → Option Refusal)
      → due s m test ≡ None
      → times_counted (counted_up s m.birth) n ≡ times_counted s n + cond (same_name n m) 1 0
  times_counted_up s m n test free =
      let there = is_there s m test free in
      grind (arith, nat_tests, counts-counted_up s m.birth n, at_home s m there.home n, there.at)

  -- one less
  pub times_counted_down : (s : State V) (m n : Name) → due s m zero_count ≡ None
      → times_counted (counted_down s m.birth) n + cond (same_name n m) 1 0 ≡ times_counted s n
  times_counted_down s m n free =
      let there = is_there s m zero_count free in
      grind (
        arith,
        nat_tests,
        counts-counted_down s m.birth n,
        at_home s m there.home n,
        there.at,
        there.passes,
      )

  -- also where the entry goes
  pub times_released : (stays : Bool) (s : State V) (m n : Name) → due s m zero_count ≡ None
      → times_counted (released stays s m.birth) n + cond (same_name n m) 1 0
      ≡ times_counted s n
  times_released stays s m n free =
      let there = is_there s m zero_count free in
      grind (
        arith,
        nat_tests,
        counts-released stays s m.birth n,
        at_home s m there.home n,
        there.at,
        there.passes,
      )

  -- what is interned counts what it did
  pub times_interned : (eq : V → V → Bool) (s : State V) (v : V) (n : Name) → IsState eq s
      → times_counted (interned eq s v).state n ≡ times_counted s n
  times_interned eq s v n ok = grind (arith, counts-interned eq s v n, unborn eq s n ok)

  -- and counted, one more
  pub times_interned_counted : (eq : V → V → Bool) (s : State V) (v : V) (n : Name)
      → IsState eq s
      → times_counted (interned_counted eq s v) n
      ≡ times_counted s n + cond (same_name n (interned_name eq s v)) 1 0
  times_interned_counted eq s v n ok = grind (arith, counts-interned_counted eq s v n ok)

  -- a sweep that leaves what is counted
  pub times_kept : (s : State V) (set : Name → Bool) (n : Name)
      → ((c : ℕ) → counts s n ≡ Some (c + 1) → set n ≡ true)
      → times_counted (kept_named s set) n ≡ times_counted s n
  times_kept s set n all = go (counts s n) refl
    where
      go : (o : Option ℕ) → counts s n ≡ o → times_counted (kept_named s set) n ≡ times_counted s n
      go None at = grind (arith, counts-kept_named s set n)
      go (Some zero) at = grind (arith, counts-kept_named s set n)
      go (Some (suc c)) at =
          let kept = all c (at ∙ ap Some (omega arith)) in grind (arith, counts-kept_named s set n)

  -- ---- handles that are held, one more or one less behind the others

  -- what is held in another order balances too
  pub balanced_permuted : (s : State V) (held others : List Name) → IsPermutation held others
      → IsBalanced s held → IsBalanced s others
  balanced_permuted s held others same is = λ n.
      is n ∙ sym (sum_by-IsPermutation (λ m. cond (same_name n m) 1 0) held others same)

  more_held : (s t : State V) (held : List Name) (m : Name) → IsBalanced s held
      → ((n : Name) → times_counted t n ≡ times_counted s n + cond (same_name n m) 1 0)
      → IsBalanced t (held ++ m ∷ [])
  more_held s t held m is more = λ n.
      more n ∙ ap (λ c. c + cond (same_name n m) 1 0) (is n)
      ∙ sym (sum_by_push (λ x. cond (same_name n x) 1 0) held m)

  less_held : (s t : State V) (held : List Name) (m : Name) → IsBalanced s (held ++ m ∷ [])
      → ((n : Name) → times_counted t n + cond (same_name n m) 1 0 ≡ times_counted s n)
      → IsBalanced t held
  less_held s t held m is less = λ n.
      let now = less n in
      let before = is n ∙ sum_by_push (λ x. cond (same_name n x) 1 0) held m in
      omega arith

  -- an interning whose handle is held
  pub balanced_interned_counted : (eq : V → V → Bool) (s : State V) (v : V) (held : List Name)
      → IsState eq s → IsBalanced s held
      → IsBalanced (interned_counted eq s v) (held ++ interned_name eq s v ∷ [])
  balanced_interned_counted eq s v held ok is =
      more_held s (interned_counted eq s v) held (interned_name eq s v) is
      (λ n. times_interned_counted eq s v n ok)

  -- one that gives a reference
  pub balanced_interned : (eq : V → V → Bool) (s : State V) (v : V) (held : List Name)
      → IsState eq s → IsBalanced s held → IsBalanced (interned eq s v).state held
  balanced_interned eq s v held ok is = λ n. times_interned eq s v n ok ∙ is n

  -- a handle more of what is there
  pub balanced_counted_up : (s : State V) (m : Name) (held : List Name)
      (test : ℕ → Option Refusal) → due s m test ≡ None → IsBalanced s held
      → IsBalanced (counted_up s m.birth) (held ++ m ∷ [])
  balanced_counted_up s m held test free is =
      more_held s (counted_up s m.birth) held m is (λ n. times_counted_up s m n test free)

  -- ---- what is held is counted

  -- one or more
  pub held_counted : (s : State V) (held : List Name) (n : Name) → IsBalanced s held
      → has held n ≡ true → (c : ℕ) × (counts s n ≡ Some (c + 1))
  held_counted s held n is among = go (counts s n) (is n) (some_held held n among)
    where
      go : (o : Option ℕ) → unwrap_or o 0 ≡ times_held held n → 0 < times_held held n
          → (c : ℕ) × (o ≡ Some (c + 1))
      go None same some = absurd (omega arith)
      go (Some zero) same some = absurd (omega arith)
      go (Some (suc c)) same some = (c, ap Some (omega arith))

  -- so its release isn't refused
  pub held_due : (s : State V) (held : List Name) (n : Name) → IsBalanced s held
      → has held n ≡ true → due s n zero_count ≡ None
  held_due s held n is among =
      let counted = held_counted s held n is among in due_counted s n counted.0 counted.1

  -- and it is read
  pub held_read : (s : State V) (held : List Name) (n : Name) → IsBalanced s held
      → has held n ≡ true → IsSome (reads s n)
  held_read s held n is among =
      let counted = held_counted s held n is among in grind (arith, counted.1)

  -- a release of the last that is held
  pub balanced_released : (stays : Bool) (s : State V) (m : Name) (held : List Name)
      → IsBalanced s (held ++ m ∷ []) → IsBalanced (released stays s m.birth) held
  balanced_released stays s m held is =
      less_held s (released stays s m.birth) held m is (λ n.
      times_released stays s m n (held_due s (held ++ m ∷ []) m is (has_last held m)))

  -- a collection that keeps what is counted
  pub balanced_kept : (s : State V) (set : Name → Bool) (held : List Name)
      → ((n : Name) (c : ℕ) → counts s n ≡ Some (c + 1) → set n ≡ true) → IsBalanced s held
      → IsBalanced (kept_named s set) held
  balanced_kept s set held all is = λ n. times_kept s set n (all n) ∙ is n

  -- as one of this storage alone does
  pub balanced_collected : (children : V → List Name) (s : State V) (listed names held : List Name)
      → IsReachedSet (starts_with listed (entries_of children s)) (entries_of children s) names
      → IsBalanced s held → IsBalanced (kept_named s (has names)) held
  balanced_collected children s listed names held reached is =
      balanced_kept s (has names) held (λ n c at.
      counted_kept listed (entries_of children s) names reached n
      (counted_starts children s n (c + 1) at (omega arith))) is

  -- ---- the same of calls with these clauses, where handles of any type are held in a list

  -- the last handle that was interned
  pub handle_pushed : {H : Type 0} (name : H → Name) (eq : V → V → Bool) (s t : State V) (v : V)
      (before now : List H) (handle : H) → now ≡ before ++ handle ∷ []
      → name handle ≡ interned_name eq s v → t ≡ interned_counted eq s v → IsState eq s
      → IsBalanced s (list_map name before) → IsBalanced t (list_map name now)
  handle_pushed name eq s t v before now handle pushed named counted ok is =
      rw (counted, names_pushed name before now handle pushed, named)
      (balanced_interned_counted eq s v (list_map name before) ok is)

  -- a release that isn't refused, and what it leaves
  pub record IsReleased {A E : Type 0} (stays : Bool) (s t : State V) (m : Name)
      (held : List Name) (r : Result A E) : Type 0
    where
      pub ok : IsOk r
      pub state : t ≡ released stays s m.birth
      pub balanced : IsBalanced t held

  -- the last handle of the list
  pub handle_popped : {H : Type 0} (name : H → Name) (stays : Bool) (s t : State V)
      (before now : List H) (handle : H) → before ≡ now ++ handle ∷ []
      → IsBalanced s (list_map name before)
      → {A O : Type 0} (r : Result A (Refused O)) (given : O)
      → OwesBack r (due s (name handle) zero_count) given
      → Becomes r s t (released stays s (name handle).birth)
      → IsReleased stays s t (name handle) (list_map name now) r
  handle_popped {H} name stays s t before now handle popped is {A} {O} r given = go r
    where
      held : IsBalanced s (list_map name now ++ name handle ∷ [])
      held = rw (names_pushed name now before handle popped) at is

      go : (r : Result A (Refused O)) → OwesBack r (due s (name handle) zero_count) given
          → Becomes r s t (released stays s (name handle).birth)
          → IsReleased stays s t (name handle) (list_map name now) r
      go (Ok a) owes becomes = record {
        ok = refl;
        state = becomes;
        balanced = rw becomes (balanced_released stays s (name handle) (list_map name now) held);
      }
      go (Err refused) owes becomes =
          let free = held_due s (list_map name now ++ name handle ∷ []) (name handle) held
          (has_last (list_map name now) (name handle)) in
          let owed = owes.0 in absurd (cc)

  -- ---- counts above zero

  -- where no count is zero, what is there can be released
  pub counted_due : (s : State V) (n : Name) (test : ℕ → Option Refusal) → IsCounted s
      → due s n test ≡ None → due s n zero_count ≡ None
  counted_due s n test counted free =
      let there = is_there s n test free in
      let some = counted n.birth there.kept there.at in
      grind (arith, nat_tests, there.home, there.at, some)

  -- none is zero after a count more, or an interning that counts
  pub counted_counted_up : (s : State V) (b : ℕ) → IsCounted s → IsCounted (counted_up s b)
  counted_counted_up s b counted = λ c k at.
      grind (arith, get-modified (recount (λ n. n + 1)) s.map b c, counted c)

  pub counted_interned_counted : (eq : V → V → Bool) (s : State V) (v : V) → IsCounted s
      → IsCounted (interned_counted eq s v)
  counted_interned_counted eq s v counted = go (birth_of eq s v)
    where
      go : (o : Option ℕ)
          → IsCounted (counted_up (or_added o s v).state (or_added o s v).birth)
      go (Some b) = counted_counted_up s b counted
      go None = λ c k at.
          grind (
            arith,
            nat_tests,
            get-modified (recount (λ n. n + 1)) (added s v).map s.next c,
            get-inserted s.map s.next (record { value = v; count = 0 }) c,
            counted c,
          )

  -- nor after a release, where entries go with their last handle
  pub counted_released : (s : State V) (b : ℕ) → IsCounted s → IsCounted (released false s b)
  counted_released s b counted = λ c k at.
      grind (
        arith,
        nat_tests,
        get-removed s.map b c,
        get-modified (recount (λ n. n - 1)) s.map b c,
        counted c,
      )

  -- nor after a sweep
  pub counted_kept_named : (s : State V) (set : Name → Bool) → IsCounted s
      → IsCounted (kept_named s set)
  counted_kept_named s set counted = λ c k at.
      grind (arith, get-retained s.map (λ b. set (name_in s b)) c, counted c)

  -- where no handle is left, nothing is
  pub none_held : (s : State V) → IsBalanced s [] → IsCounted s → (n : Name) → reads s n ≡ None
  none_held s balanced counted n = go (reads s n) refl
    where
      go : (o : Option V) → reads s n ≡ o → o ≡ None
      go None at = refl
      go (Some v) at =
          let r = read_at s n v at in
          let some = counted n.birth r.kept r.at in
          let none = balanced n in grind (arith, nat_tests, r.home, r.at, some, none)

  -- a release changes nothing beside the entries
  pub emptied_released : (stays : Bool) (s : State V) (b : ℕ)
      → emptied (released stays s b) ≡ emptied s
  emptied_released stays s b =
      released_either (λ t. emptied t ≡ emptied s) stays s b refl (go (entry_at s b))
    where
      go : (o : Option (Kept V)) → emptied (with_count (λ n. n - 1) s b o) ≡ emptied s
      go o = refl

  -- so a storage whose handles are all released is empty
  pub all_released : (s t : State V) → emptied t ≡ emptied s → IsBalanced t [] → IsCounted t
      → t ≡ emptied s
  all_released s t same balanced counted =
      let none = none_held t balanced counted in
      ap (λ m. record t { map = m }) (same_map nat_cmp_total nat_cmp-IsAntisymmetric t.map map.empty
      (λ q. let gone = none (name_in t q) in
      grind (arith, nat_tests, gone, get-empty {X = Kept V} nat_cmp q))) ∙ same

-- ---- symbols that are held

held_push : (held : List Named) (a : Named)
    → entry_names (held ++ a ∷ []) ≡ entry_names held ++ entry_names (a ∷ [])
held_push held a = filter_map-append entry_name held (a ∷ [])

-- a symbol more, of a text that is interned
pub balanced_symbol : (s : State (List ℕ)) (text : List ℕ) (held : List Named)
    → IsState bytes_eq s → IsBalanced s (entry_names held)
    → IsBalanced (symbol_in s text).table (entry_names (held ++ (symbol_in s text).symbol ∷ []))
balanced_symbol s text held ok is = go (place_of text)
  where
    go : (p : Option ℕ) → IsBalanced (symbol_at p s text).table
        (entry_names (held ++ (symbol_at p s text).symbol ∷ []))
    go (Some place) = rw (held_push, append-nil) is
    go None = rw held_push (balanced_interned_counted bytes_eq s text (entry_names held) ok is)

-- or of what is held
pub balanced_symbol_counted_up : (s : State (List ℕ)) (a : Named) (held : List Named)
    (test : ℕ → Option Refusal) → due_of s a test ≡ None → IsBalanced s (entry_names held)
    → IsBalanced (at_entry counted_up s a) (entry_names (held ++ a ∷ []))
balanced_symbol_counted_up s (preset place) held test free is = rw (held_push, append-nil) is
balanced_symbol_counted_up s (entry m) held test free is =
    rw held_push (balanced_counted_up s m (entry_names held) test free is)

-- a release of the last that is held
pub balanced_symbol_released : (s : State (List ℕ)) (a : Named) (held : List Named)
    → IsBalanced s (entry_names (held ++ a ∷ []))
    → IsBalanced (at_entry (released false) s a) (entry_names held)
balanced_symbol_released s (preset place) held is = rw (held_push, append-nil) at is
balanced_symbol_released s (entry m) held is =
    balanced_released false s m (entry_names held) (rw held_push at is)
