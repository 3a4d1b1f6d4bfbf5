-- Maps under handles and symbols: what they have under each name, value and text after a change.
use Rattle.std.proofs.Common.{◌≡◌, ◌↔◌, ◌⊎◌, inl, inr, ℕ, Bool, true, false, cond, List, [], Result, Ok, Err, OnErr, Option, Some, None, IsSome, is_some, refl, sym, ap, subst, ◌∙◌, arith}
use Rattle.std.specs.Cmp.{IsEquivalence}
use Rattle.std.specs.Cmp.Lexicographic.{nat_list_eq_equiv}
use Rattle.std.specs.HashMap.{HashMap, get, get_by}
use Rattle.std.specs.List.{filter}
use Rattle.std.specs.Map.{lookup}
use Rattle.std.specs.Option.{option_map}
use Rattle.std.specs.Prelude.{option_and_then}
use Rattle.std.specs.Str.{bytes_eq}
use Rattle.std.proofs.lemmas.Map.Entries.{lookup-filter-keys}
use Rattle.std.proofs.lemmas.Slice.Eq.{bytes_eq-Decides}
use Rattle.ra_ap_intern.specs.Handle.{ref_name}
use Rattle.ra_ap_intern.specs.Interning.{ReadsOn}
use Rattle.ra_ap_intern.specs.Name.{Name}
use Rattle.ra_ap_intern.specs.Named.{same_name}
use Rattle.ra_ap_intern.specs.Presets.{place_of}
use Rattle.ra_ap_intern.specs.State.{State, IsState, name_in, reads, interned, interned_name, interned_counted, name_of_value}
use Rattle.ra_ap_intern.specs.Symbols.{Named, same_named, symbol_ref_name, text_of, named_at, named_in, symbol_at, symbol_in, due_symbol}
use Rattle.ra_ap_intern.specs.Symbols.Named.{entry}
use Rattle.ra_ap_intern.specs.Under.{under_name, under_value, Covers, under_symbol, under_text, CoversTexts}
use Rattle.ra_ap_intern.specs.declared.storage.Ref.{Ref}
use Rattle.ra_ap_intern.specs.declared.symbol.SymbolRef.{SymbolRef}
use Rattle.intern_store.proofs.Named.{names_same, same_names}
use Rattle.intern_store.proofs.Reading.{interned_reads}
use Rattle.ra_ap_intern.proofs.CallerInterning.{found_reads, read_found, interned_counted_reads, interned_found_elsewhere, interned_counted_found_elsewhere, found_or_new, found_or_new_counted}
use Rattle.ra_ap_intern.proofs.CallerReads.{some_read, read_below}
use Rattle.ra_ap_intern.proofs.CallerSymbols.{named_by, named_same, same_nameds, named_here, named_there, named_once, references_tested}
use Rattle.ra_ap_intern.proofs.CallerViews.{handles_tested}

-- what holds in any case holds where a call is refused
pub on_err : {A E : Type 0} (r : Result A E) {P : Type 0} → P → OnErr r P
on_err (Ok x) p = tt
on_err (Err e) p = p

-- ---- under handles of any type

-- a map under handles is read by what they name
module _ {H N M S : Type 0} (eq : H → H → Bool) (test : N → N → Bool) (view : H → N) (tested : (a b : H) → eq a b ≡ test (view a) (view b)) where
  pub map_named : (m : HashMap H M S) (h : H) → get eq m h ≡ get_by (λ r. test (view h) (view r)) m
  map_named m h = λ i. get_by (λ r. tested h r i) m

  -- after a value was put under a handle, or taken away
  pub map_changed : (old new : HashMap H M S) (handle : H) (value : Option M)
      → ((h : H) → get eq new h ≡ cond (eq handle h) value (get eq old h)) → (h : H)
      → get_by (λ r. test (view h) (view r)) new
      ≡ cond (test (view handle) (view h)) value (get_by (λ r. test (view h) (view r)) old)
  map_changed old new handle value is h =
      sym (map_named new h) ∙ is h ∙ (λ i. cond (tested handle h i) value (map_named old h i))

  -- where it holds the same in another order
  pub map_same : (old new : HashMap H M S) → ((h : H) → get eq new h ≡ get eq old h) → (h : H)
      → get_by (λ r. test (view h) (view r)) new ≡ get_by (λ r. test (view h) (view r)) old
  map_same old new same h = sym (map_named new h) ∙ same h ∙ map_named old h

-- after those whose names pass were retained
pub map_retained : {H N M S : Type 0} (test : N → N → Bool) (view : H → N)
    → ((n m : N) → test n m ≡ true → n ≡ m) → (passes : N → Bool) (old new : HashMap H M S)
    → new.entries ≡ filter (λ e. passes (view e.0)) old.entries → (n : N)
    → get_by (λ r. test n (view r)) new ≡ cond (passes n) (get_by (λ r. test n (view r)) old) None
map_retained test view same passes old new kept n =
    ap (lookup (λ r. test n (view r))) kept
    ∙ lookup-filter-keys (λ r. test n (view r)) (λ r. passes (view r)) (passes n)
    (λ r is. sym (ap passes (same n (view r) is))) old.entries

-- ---- under references, by names

-- each name has a reference
reference_by : {K : Type 0} (n : Name) → (r : Ref K) × (ref_name r ≡ n)
reference_by {K} n =
    let r : Ref K = record {
      key = record { storage = n.storage; spot = record { birth = n.birth; place = 0 } };
      marker = record {};
    } in (r, refl)

module _ {K M S : Type 0} (eq : Ref K → Ref K → Bool) (alike : (a b : Ref K) → (eq a b ≡ true) ↔ (ref_name a ≡ ref_name b)) where
  pub names_named : (m : HashMap (Ref K) M S) (h : Ref K) → get eq m h ≡ under_name m (ref_name h)
  names_named = map_named eq same_name ref_name (handles_tested eq ref_name alike)

  -- a value is put under a reference, or taken away
  pub names_changed : (old new : HashMap (Ref K) M S) (key : Ref K) (value : Option M)
      → ((q : Ref K) → get eq new q ≡ cond (eq key q) value (get eq old q)) → (n : Name)
      → under_name new n ≡ cond (same_name (ref_name key) n) value (under_name old n)
  names_changed old new key value is n =
      let r = reference_by n in
      subst (λ m. under_name new m ≡ cond (same_name (ref_name key) m) value (under_name old m)) r.1
      (map_changed eq same_name ref_name (handles_tested eq ref_name alike) old new key value is r.0)

  -- the map holds the same in another order
  pub names_alike : (old new : HashMap (Ref K) M S) → ((q : Ref K) → get eq new q ≡ get eq old q)
      → (n : Name) → under_name new n ≡ under_name old n
  names_alike old new same n =
      let r = reference_by n in
      subst (λ m. under_name new m ≡ under_name old m) r.1
      (map_same eq same_name ref_name (handles_tested eq ref_name alike) old new same r.0)

-- those whose names pass are retained
pub names_retained : {K M S : Type 0} (passes : Name → Bool) (old new : HashMap (Ref K) M S)
    → new.entries ≡ filter (λ e. passes (ref_name e.0)) old.entries → (n : Name)
    → under_name new n ≡ cond (passes n) (under_name old n) None
names_retained = map_retained same_name ref_name names_same

-- ---- under references to symbols, by what they name

module _ {M S : Type 0} (eq : SymbolRef → SymbolRef → Bool) (alike : (a b : SymbolRef) → (eq a b ≡ true) ↔ (symbol_ref_name a ≡ symbol_ref_name b)) where
  pub symbols_named : (m : HashMap SymbolRef M S) (a : SymbolRef)
      → get eq m a ≡ under_symbol m (symbol_ref_name a)
  symbols_named = map_named eq same_named symbol_ref_name (references_tested eq alike)

  -- a value is put under a symbol, or taken away
  pub symbols_changed : (old new : HashMap SymbolRef M S) (key : SymbolRef) (value : Option M)
      → ((q : SymbolRef) → get eq new q ≡ cond (eq key q) value (get eq old q)) → (a : Named)
      → under_symbol new a ≡ cond (same_named (symbol_ref_name key) a) value (under_symbol old a)
  symbols_changed old new key value is a =
      let r = named_by a in
      subst (λ b. under_symbol new b
      ≡ cond (same_named (symbol_ref_name key) b) value (under_symbol old b)) r.1
      (map_changed eq same_named symbol_ref_name (references_tested eq alike) old new key value is r.0)

  -- the map holds the same in another order
  pub symbols_same : (old new : HashMap SymbolRef M S) → ((q : SymbolRef) → get eq new q ≡ get eq old q)
      → (a : Named) → under_symbol new a ≡ under_symbol old a
  symbols_same old new same a =
      let r = named_by a in
      subst (λ b. under_symbol new b ≡ under_symbol old b) r.1
      (map_same eq same_named symbol_ref_name (references_tested eq alike) old new same r.0)

-- ---- under values and texts, through the look-up that finds their names

-- where the look-up finds one name for what is like x, and for others what it found, and a value is
-- put under that name
changed_through : {X A M : Type 0} (like : X → X → Bool) (same : A → A → Bool) (found now : X → Option A)
    (old new : A → Option M) (x : X) (a : A) (value : Option M)
    → ((y : X) → like x y ≡ true → now y ≡ Some a)
    → ((y : X) → like x y ≡ false → now y ≡ found y)
    → ((y : X) (b : A) → now y ≡ Some b → same a b ≡ true → like x y ≡ true) → same a a ≡ true
    → ((b : A) → new b ≡ cond (same a b) value (old b)) → (y : X)
    → option_and_then new (now y) ≡ cond (like x y) value (option_and_then old (found y))
changed_through like same found now old new x a value here there once itself put y =
    grind (arith, here y, there y, once y, itself, put)

module _ {K V M S : Type 0} (eq : V → V → Bool) (laws : IsEquivalence eq) (test : Ref K → Ref K → Bool) (alike : (a b : Ref K) → (test a b ≡ true) ↔ (ref_name a ≡ ref_name b)) where
  -- a value is put under the reference of one that is read, and look-ups of others find what they
  -- found
  put_under : (s t : State V) → IsState eq t → (v w : V) (key : Ref K)
      → reads t (ref_name key) ≡ Some w → eq v w ≡ true
      → ((u : V) → eq v u ≡ false → name_of_value eq t u ≡ name_of_value eq s u)
      → (old new : HashMap (Ref K) M S) (value : Option M)
      → ((q : Ref K) → get test new q ≡ cond (test key q) value (get test old q)) → (u : V)
      → under_value eq t new u ≡ cond (eq v u) value (under_value eq s old u)
  put_under s t ok v w key read same there old new value put =
      changed_through eq same_name (name_of_value eq s) (name_of_value eq t) (under_name old) (under_name new) v
      (ref_name key) value
      (λ u is. read_found eq laws t ok u (ref_name key) w read (sym (laws.congr v u w is) ∙ same)) there
      (λ u n at is.
      let r = found_reads eq t u n at in
      grind (arith, read, same, names_same _ n is, r.1, r.2, laws.symm v u, laws.congr u r.0 v, laws.symm r.0 v))
      (same_names (ref_name key) (ref_name key) refl) (names_changed test alike old new key value put)

  -- a value is put under the reference of one that is interned in collected mode
  pub value_put : (s : State V) (v : V) → IsState eq s → IsState eq (interned eq s v).state
      → (key : Ref K) → ref_name key ≡ interned_name eq s v → (old new : HashMap (Ref K) M S)
      (value : Option M)
      → ((q : Ref K) → get test new q ≡ cond (test key q) value (get test old q)) → (u : V)
      → under_value eq (interned eq s v).state new u ≡ cond (eq v u) value (under_value eq s old u)
  value_put s v ok is key named =
      let r = interned_reads eq laws s v in
      let t = (interned eq s v).state in
      put_under s t is v r.0 key (ap (reads t) named ∙ r.1) r.2
      (interned_found_elsewhere eq laws s v ok is)

  -- and in counted mode
  pub value_put_counted : (s : State V) (v : V) → IsState eq s → IsState eq (interned_counted eq s v)
      → (key : Ref K) → ref_name key ≡ interned_name eq s v → (old new : HashMap (Ref K) M S)
      (value : Option M)
      → ((q : Ref K) → get test new q ≡ cond (test key q) value (get test old q)) → (u : V)
      → under_value eq (interned_counted eq s v) new u ≡ cond (eq v u) value (under_value eq s old u)
  value_put_counted s v ok is key named =
      let r = interned_counted_reads eq laws s v in
      let t = interned_counted eq s v in
      put_under s t is v r.0 key (ap (reads t) named ∙ r.1) r.2
      (interned_counted_found_elsewhere eq laws s v ok is)

-- the map holds the same in another order
pub values_alike : {K V M S : Type 0} (eq : V → V → Bool) (test : Ref K → Ref K → Bool)
    → ((a b : Ref K) → (test a b ≡ true) ↔ (ref_name a ≡ ref_name b)) → (s : State V)
    (old new : HashMap (Ref K) M S) → ((q : Ref K) → get test new q ≡ get test old q) → (v : V)
    → under_value eq s new v ≡ under_value eq s old v
values_alike eq test alike s old new same v =
    λ i. option_and_then (λ n. names_alike test alike old new same n i) (name_of_value eq s v)

-- a later state that reads no more than one before, and a map of which what is read then is
-- retained: what is stored has under it what it had
pub value_retained : {K V M S : Type 0} (eq : V → V → Bool) → IsEquivalence eq → (s t : State V)
    → IsState eq s → ((n : Name) (u : V) → reads t n ≡ Some u → reads s n ≡ Some u)
    → (old new : HashMap (Ref K) M S)
    → ((n : Name) → under_name new n ≡ cond (is_some (reads t n)) (under_name old n) None)
    → (v : V) (n : Name) → name_of_value eq t v ≡ Some n
    → under_value eq t new v ≡ under_value eq s old v
value_retained eq laws s t ok back old new kept v n at =
    let r = found_reads eq t v n at in
    let found = read_found eq laws s ok v n r.0 (back n r.0 r.1) r.2 in
    grind (arith, kept n, r.1, found)

module _ {M S : Type 0} (eq : SymbolRef → SymbolRef → Bool) (alike : (a b : SymbolRef) → (eq a b ≡ true) ↔ (symbol_ref_name a ≡ symbol_ref_name b)) where
  -- a value is put under the symbol of a text that is interned
  pub text_put : (s : State (List ℕ)) (text : List ℕ) → IsState bytes_eq s → due_symbol s text ≡ None
      → (key : SymbolRef) → symbol_ref_name key ≡ (symbol_in s text).symbol
      → (old new : HashMap SymbolRef M S) (value : Option M)
      → ((q : SymbolRef) → get eq new q ≡ cond (eq key q) value (get eq old q)) → (other : List ℕ)
      → under_text (symbol_in s text).table new other
      ≡ cond (bytes_eq text other) value (under_text s old other)
  text_put s text ok free key named old new value put =
      changed_through bytes_eq same_named (named_in s) (named_in (symbol_in s text).table) (under_symbol old)
      (under_symbol new) text (symbol_in s text).symbol value
      (λ other is. ap (named_in (symbol_in s text).table) (sym ((bytes_eq-Decides text other).0 is))
      ∙ named_here s text ok free)
      (named_there s text ok free)
      (λ other a at is.
      (bytes_eq-Decides text other).1
      (named_once _ text other _ a (named_here s text ok free) at (named_same _ a is)))
      (same_nameds (symbol_in s text).symbol)
      (subst
      (λ b. (a : Named) → under_symbol new a ≡ cond (same_named b a) value (under_symbol old a)) named
      (symbols_changed eq alike old new key value put))

  -- the map holds the same in another order
  pub texts_same : (s : State (List ℕ)) (old new : HashMap SymbolRef M S)
      → ((q : SymbolRef) → get eq new q ≡ get eq old q) → (text : List ℕ)
      → under_text s new text ≡ under_text s old text
  texts_same s old new same text =
      λ i. option_and_then (λ a. symbols_same eq alike old new same a i) (named_in s text)

-- ---- what a map has something under is read

-- what is put under one key, or taken away, is covered where that key is read
put_covered : {A M V : Type 0} (same : A → A → Bool) (alike : (a b : A) → same a b ≡ true → a ≡ b)
    (read : A → Option V) (old new : A → Option M) (key : A) (value : Option M)
    → ((a : A) → new a ≡ cond (same key a) value (old a)) → IsSome (read key)
    → ((a : A) (m : M) → old a ≡ Some m → IsSome (read a)) → (a : A) (m : M) → new a ≡ Some m
    → IsSome (read a)
put_covered same alike read old new key value put here covers a m at =
    go (same key a) refl (sym (put a) ∙ at)
  where
    go : (t : Bool) → same key a ≡ t → cond t value (old a) ≡ Some m → IsSome (read a)
    go true is found = subst (λ b. IsSome (read b)) (alike key a is) here
    go false is found = covers a m found

-- nothing is under what isn't read
none_uncovered : {A M V : Type 0} (read : A → Option V) (under : A → Option M)
    → ((a : A) (m : M) → under a ≡ Some m → IsSome (read a)) → (a : A) → (IsSome (read a) → ⊥)
    → under a ≡ None
none_uncovered {M = M} read under covers a unread = go (under a) refl
  where
    go : (o : Option M) → under a ≡ o → o ≡ None
    go None is = refl
    go (Some m) is = absurd (unread (covers a m is))

-- what a look-up finds has under it what it had, where it finds what it found, or else nothing is
-- under what it finds now
same_through : {A M : Type 0} (under : A → Option M) (found now : Option A) (fresh : A)
    → under fresh ≡ None → (now ≡ found) ⊎ ((found ≡ None) × (now ≡ Some fresh))
    → option_and_then under now ≡ option_and_then under found
same_through under found now fresh none (inl same) = ap (option_and_then under) same
same_through under found now fresh none (inr new) =
    ap (option_and_then under) new.1 ∙ none ∙ sym (ap (option_and_then under) new.0)

-- the next name isn't read yet
next_unread : {V : Type 0} (eq : V → V → Bool) (s : State V) → IsState eq s
    → IsSome (reads s (name_in s s.next)) → ⊥
next_unread eq s ok is = omega (arith, read_below eq s ok (name_in s s.next) is)

module _ {K V M S : Type 0} where
  -- a map that has no entries is covered
  pub covers_none : (s : State V) (map : HashMap (Ref K) M S) → map.entries ≡ [] → Covers s map
  covers_none s map none n m at =
      let found = sym (ap (lookup (λ r. same_name n (ref_name r))) none) ∙ at in absurd (cc)

  -- one that is covered stays so where what was read is read
  pub covers_on : (s t : State V) (map : HashMap (Ref K) M S) → ReadsOn s t → Covers s map
      → Covers t map
  covers_on s t map on covers n m at =
      let v = some_read (reads s n) (covers n m at) in ap is_some (on n v.0 v.1)

  -- one of which what is read was retained is covered
  pub covers_retained : (t : State V) (old new : HashMap (Ref K) M S)
      → ((n : Name) → under_name new n ≡ cond (is_some (reads t n)) (under_name old n) None)
      → Covers t new
  covers_retained t old new kept n m at = go (is_some (reads t n)) (sym (kept n) ∙ at)
    where
      go : (b : Bool) → cond b (under_name old n) None ≡ Some m → b ≡ true
      go true found = refl
      go false found = absurd (cc)

  module _ (test : Ref K → Ref K → Bool) (alike : (a b : Ref K) → (test a b ≡ true) ↔ (ref_name a ≡ ref_name b)) (s : State V) where
    -- a map stays covered where a value was put under a reference that is read, or taken away
    pub covers_put : (old new : HashMap (Ref K) M S) (key : Ref K) (value : Option M)
        → ((q : Ref K) → get test new q ≡ cond (test key q) value (get test old q))
        → IsSome (reads s (ref_name key)) → Covers s old → Covers s new
    covers_put old new key value put =
        put_covered same_name names_same (reads s) (under_name old) (under_name new) (ref_name key)
        value (names_changed test alike old new key value put)

    -- and where it holds the same in another order
    pub covers_alike : (old new : HashMap (Ref K) M S)
        → ((q : Ref K) → get test new q ≡ get test old q) → Covers s old → Covers s new
    covers_alike old new same covers n m at =
        covers n m (sym (names_alike test alike old new same n) ∙ at)

  -- ---- so what is under each value stays where nothing is put into the map

  module _ (eq : V → V → Bool) (laws : IsEquivalence eq) (s : State V) (ok : IsState eq s) (v : V) (map : HashMap (Ref K) M S) (covers : Covers s map) where
    -- nothing is under the next name
    none_next : under_name map (name_in s s.next) ≡ None
    none_next =
        none_uncovered (reads s) (under_name map) covers (name_in s s.next) (next_unread eq s ok)

    -- after an interning in collected mode
    pub value_stays : (u : V) → under_value eq (interned eq s v).state map u ≡ under_value eq s map u
    value_stays u =
        same_through (under_name map) (name_of_value eq s u)
        (name_of_value eq (interned eq s v).state u) (name_in s s.next) none_next
        (found_or_new eq laws s ok v u)

    -- and in counted mode
    pub value_stays_counted : (u : V)
        → under_value eq (interned_counted eq s v) map u ≡ under_value eq s map u
    value_stays_counted u =
        same_through (under_name map) (name_of_value eq s u)
        (name_of_value eq (interned_counted eq s v) u) (name_in s s.next) none_next
        (found_or_new_counted eq laws s ok v u)

-- ---- under symbols

module _ {M S : Type 0} where
  -- a map that has no entries is covered
  pub covers_texts_none : (s : State (List ℕ)) (map : HashMap SymbolRef M S) → map.entries ≡ []
      → CoversTexts s map
  covers_texts_none s map none a m at =
      let found = sym (ap (lookup (λ r. same_named a (symbol_ref_name r))) none) ∙ at in absurd (cc)

  -- one that is covered stays so where the texts of symbols stay
  pub covers_texts_on : (s t : State (List ℕ)) (map : HashMap SymbolRef M S)
      → ((a : Named) (text : List ℕ) → text_of s a ≡ Some text → text_of t a ≡ Some text)
      → CoversTexts s map → CoversTexts t map
  covers_texts_on s t map on covers a m at =
      let v = some_read (text_of s a) (covers a m at) in ap is_some (on a v.0 v.1)

  module _ (eq : SymbolRef → SymbolRef → Bool) (alike : (a b : SymbolRef) → (eq a b ≡ true) ↔ (symbol_ref_name a ≡ symbol_ref_name b)) (s : State (List ℕ)) where
    -- and where a value was put under a symbol that has a text, or taken away
    pub covers_texts_put : (old new : HashMap SymbolRef M S) (key : SymbolRef) (value : Option M)
        → ((q : SymbolRef) → get eq new q ≡ cond (eq key q) value (get eq old q))
        → IsSome (text_of s (symbol_ref_name key)) → CoversTexts s old → CoversTexts s new
    covers_texts_put old new key value put =
        put_covered same_named named_same (text_of s) (under_symbol old) (under_symbol new)
        (symbol_ref_name key) value (symbols_changed eq alike old new key value put)

    -- and where it holds the same in another order
    pub covers_texts_same : (old new : HashMap SymbolRef M S)
        → ((q : SymbolRef) → get eq new q ≡ get eq old q) → CoversTexts s old → CoversTexts s new
    covers_texts_same old new same covers a m at =
        covers a m (sym (symbols_same eq alike old new same a) ∙ at)

  -- what is under each text stays where a text is interned and nothing put under it
  pub text_stays_under : (s : State (List ℕ)) → IsState bytes_eq s → (text : List ℕ)
      (map : HashMap SymbolRef M S) → CoversTexts s map → (other : List ℕ)
      → under_text (symbol_in s text).table map other ≡ under_text s map other
  text_stays_under s ok text map covers other = go (place_of text) (place_of other)
    where
      fresh : under_symbol map (entry (name_in s s.next)) ≡ None
      fresh =
          none_uncovered (text_of s) (under_symbol map) covers (entry (name_in s s.next))
          (next_unread bytes_eq s ok)

      go : (p q : Option ℕ)
          → option_and_then (under_symbol map) (named_at q (symbol_at p s text).table other)
          ≡ option_and_then (under_symbol map) (named_at q s other)
      go p (Some place) = refl
      go (Some place) None = refl
      go None None =
          same_through (under_symbol map) (option_map entry (name_of_value bytes_eq s other))
          (option_map entry (name_of_value bytes_eq (interned_counted bytes_eq s text) other))
          (entry (name_in s s.next)) fresh
          (grind (arith, found_or_new_counted bytes_eq nat_list_eq_equiv s ok text other))
