-- What cells with formulas need, and what a collection leaves of it.
use Rattle.std.proofs.Common.{◌≡◌, ◌↔◌, ◌⊎◌, inl, inr, ℕ, ◌+◌, ◌<◌, ◌≤◌, ◌==◌, Bool, true, false, cond, List, [], ◌∷◌, ◌++◌, length, take, get_or, Contains, Option, Some, None, is_some, slice_get, refl, sym, ap, subst, ◌∙◌, add-one, arith}
use Rattle.std.specs.List.{list_any}
use Rattle.std.specs.FinMap as map_of
use Rattle.std.specs.Option.{option_map}
use Rattle.std.proofs.lemmas.Bool.{and_parts, cases_lt, or_cases, or_left, or_right}
use Rattle.std.proofs.lemmas.List.{get_or_append_left, length-append, length-map, take_all}
use Rattle.std.proofs.lemmas.List.Elements.{Contains-append_left, Contains-push, Contains-push_cases}
use Rattle.std.proofs.lemmas.Map.Views.{Contains-from_any}
use Rattle.std.proofs.lemmas.Option.{get_or_from_slice_get, same_Some, slice_get-get_or, slice_get_within}
use Rattle.std.proofs.Math.Seq.{take-suc}
use Rattle.indexmap.specs.IndexSet.{insert_key}
use Rattle.ra_ap_intern.specs.Families.{IsCollection, kept_named}
use Rattle.ra_ap_intern.specs.Kept.{Kept}
use Rattle.ra_ap_intern.specs.Name.{Name}
use Rattle.ra_ap_intern.specs.Named.{same_name}
use Rattle.ra_ap_intern.specs.Names.{has}
use Rattle.ra_ap_intern.specs.Reach.{children_in, children_of, is_entry, starts, starts_with, IsPath}
use Rattle.ra_ap_intern.specs.State.{State, IsState, entry_at, reads, name_of_value}
use Rattle.ra_ap_intern.specs.StorageLaws.{as_entry, entries_kept, entry_named}
use Rattle.ra_ap_intern.specs.declared.gc.Collected.{Collected}
use Rattle.ra_ap_intern.proofs.CallerLemmas.{counted_kept, entry_read, found_reads, names_same, root_kept, same_names}
use Rattle.queries.specs.Cache.{queries_of}
use Rattle.queries.specs.Needed.{AreNeeded, HasHandle, IsFormulaCell, IsNeeded, LeadsTo, TakesReads}
use Rattle.queries.specs.Sheet.{Formulas, reads_of}
use Rattle.queries.specs.Spreadsheet.{IsCleared}
use Rattle.queries.specs.declared.cache.Counts.{Counts}
use Rattle.queries.specs.declared.key.Key.{Key}
use Rattle.queries.specs.declared.key.Key.TheVariants.{Cell}
use Rattle.queries.specs.declared.place.Place.{Place}
use Rattle.queries.proofs.Memos.{found_none}
use Rattle.queries.proofs.Steps.{any_last}

-- ---- elements of lists

at_of : {X : Type 0} (xs : List X) (x : X) → Contains xs x → (i : ℕ) × (slice_get xs i ≡ Some x)
at_of xs x in' = (in'.0, slice_get-get_or xs in'.0 x in'.1 ∙ ap Some in'.2)

of_at : {X : Type 0} (xs : List X) (i : ℕ) (x : X) → slice_get xs i ≡ Some x → Contains xs x
of_at xs i x at = (i, slice_get_within xs i x at, get_or_from_slice_get xs i x x at)

at_pushed : {X : Type 0} (xs : List X) (y : X) (i : ℕ) (x : X) → slice_get xs i ≡ Some x
    → slice_get (xs ++ y ∷ []) i ≡ Some x
at_pushed xs y i x at =
    let within = slice_get_within xs i x at in
    let long : length (xs ++ y ∷ []) ≡ length xs + 1 = length-append xs (y ∷ []) in
    slice_get-get_or (xs ++ y ∷ []) i x (omega arith)
    ∙ ap Some (get_or_append_left xs (y ∷ []) x i within ∙ get_or_from_slice_get xs i x x at)

-- one more of the first so many
passed_more : {X : Type 0} (xs : List X) (i : ℕ) (x : X) → slice_get xs i ≡ Some x
    → take (i + 1) xs ≡ take i xs ++ x ∷ []
passed_more xs i x at =
    ap (λ n. take n xs) (add-one i) ∙ take-suc xs i x (slice_get_within xs i x at)
    ∙ ap (λ y. take i xs ++ y ∷ []) (get_or_from_slice_get xs i x x at)

module _ {X : Type 0} (all : List X) (i : ℕ) (x : X) (at : slice_get all i ≡ Some x) where
  passed_before : (y : X) → Contains (take i all) y → Contains (take (i + 1) all) y
  passed_before y in' =
      subst (λ xs. Contains xs y) (sym (passed_more all i x at))
      (Contains-append_left (take i all) (x ∷ []) y in')

  passed_here : Contains (take (i + 1) all) x
  passed_here = subst (λ xs. Contains xs x) (sym (passed_more all i x at)) (Contains-push (take i all) x)

  passed_cases : (y : X) → Contains (take (i + 1) all) y → Contains (take i all) y ⊎ (x ≡ y)
  passed_cases y in' =
      Contains-push_cases (take i all) x y (subst (λ xs. Contains xs y) (passed_more all i x at) in')

-- ---- a query is added to a set

pub record Inserts (old new : List Key) (key : Key) : Type 0 where
  pub behind : (i : ℕ) (k : Key) → slice_get old i ≡ Some k → slice_get new i ≡ Some k
  pub here : Contains new key
  pub each : (k : Key) → Contains new k → Contains old k ⊎ (key ≡ k)

still_there : (old new : List Key)
    → ((i : ℕ) (k : Key) → slice_get old i ≡ Some k → slice_get new i ≡ Some k)
    → (k : Key) → Contains old k → Contains new k
still_there old new behind k in' =
    let at = at_of old k in' in of_at new at.0 k (behind at.0 k at.1)

module _ (eq : Key → Key → Bool) (alike : (a b : Key) → (eq a b ≡ true) ↔ (a ≡ b)) where
  pub inserts : (old new : List Key) (key : Key) → new ≡ insert_key eq old key
      → Inserts old new key
  inserts old new key is = go (list_any (eq key) old) refl
    where
      go : (t : Bool) → list_any (eq key) old ≡ t → Inserts old new key
      go true found =
          let same : new ≡ old = is ∙ ap (λ t. cond t old (old ++ key ∷ [])) found in record {
            behind = λ i k at. ap (λ ks. slice_get ks i) same ∙ at;
            here =
                subst (λ ks. Contains ks key) (sym same)
                (Contains-from_any (λ a b. (alike a b).0) key old found);
            each = λ k in'. inl (subst (λ ks. Contains ks k) same in');
          }
      go false none =
          let more : new ≡ old ++ key ∷ [] = is ∙ ap (λ t. cond t old (old ++ key ∷ [])) none in record {
            behind = λ i k at. ap (λ ks. slice_get ks i) more ∙ at_pushed old key i k at;
            here = subst (λ ks. Contains ks key) (sym more) (Contains-push old key);
            each = λ k in'. Contains-push_cases old key k (subst (λ ks. Contains ks k) more in');
          }

  -- what a look-up tells
  pub named_reads : (s : State Key) (key : Key) (name : Name) → Some name ≡ name_of_value eq s key
      → reads s name ≡ Some key
  named_reads s key name at =
      let is = found_reads eq s key name (sym at) in
      is.1 ∙ ap Some (sym ((alike key is.0).0 is.2))

  module _ (s : State Key) (ok : IsState eq s) {R : Type 0} (name : R → Name) where
    pub handle_found : (key : Key) (found : Option R) → option_map name found ≡ name_of_value eq s key
        → is_some found ≡ true → HasHandle s key
    handle_found key None at some = absurd (cc)
    handle_found key (Some r) at some = (name r, named_reads s key (name r) at)

    pub handle_none : (key : Key) (found : Option R) → option_map name found ≡ name_of_value eq s key
        → is_some found ≡ false → HasHandle s key → ⊥
    handle_none key None at none handle = found_none eq alike s ok key handle.0 at handle.1
    handle_none key (Some r) at none handle = absurd (cc)

-- ---- cells

-- the cells of these places are listed, and no other
abbrev pub HasCells : List Place → List Key → Type 0
HasCells places keys = (key : Key) → Contains keys key
    ↔ ((place : Place) × (key ≡ Cell place) × Contains places place)

pub no_cells : (keys : List Key) → keys ≡ [] → HasCells [] keys
no_cells keys none key = (
  λ in'. let at = subst (λ ks. Contains ks key) none in' in absurd (omega (arith, at.1)),
  λ of. absurd (omega (arith, of.2.1)),
)

pub cells_more : (all : List Place) (i : ℕ) (place : Place) → slice_get all i ≡ Some place
    → (old new : List Key) → HasCells (take i all) old → Inserts old new (Cell place)
    → HasCells (take (i + 1) all) new
cells_more all i place at old new before puts key = (
  λ in'. elim (puts.each key in') [
    | inl earlier ↦
        let of = (before key).0 earlier in
        (of.0, of.1, passed_before all i place at of.0 of.2)
    | inr same ↦ (place, sym same, passed_here all i place at)
  ],
  λ of. elim (passed_cases all i place at of.0 of.2) [
    | inl earlier ↦ still_there old new puts.behind key ((before key).1 (of.0, of.1, earlier))
    | inr same ↦ subst (Contains new) (ap Cell same ∙ sym of.1) puts.here
  ],
)

pub cells_all : (all : List Place) (i : ℕ) (keys : List Key) → length all ≤ i
    → HasCells (take i all) keys → HasCells all keys
cells_all all i keys past is = subst (λ ps. HasCells ps keys) (take_all i all past) is

-- ---- reads

pub takes_none : (keys : State Key) (old : List Key) → TakesReads keys [] old old
takes_none keys old = record {
  behind = λ i k at. at;
  each = λ k in'. inl in';
  all = λ k none handle. absurd (omega (arith, none.1));
}

module _ (keys : State Key) (all : List Key) (i : ℕ) (key : Key) (at : slice_get all i ≡ Some key) (old mid : List Key) (before : TakesReads keys (take i all) old mid) where
  each_before : (k : Key) → Contains mid k
      → Contains old k ⊎ (Contains (take (i + 1) all) k × HasHandle keys k)
  each_before k in' = elim (before.each k in') [
    | inl earlier ↦ inl earlier
    | inr read ↦ inr (passed_before all i key at k read.0, read.1)
  ]

  -- a read that has a handle
  pub takes_more : (new : List Key) → HasHandle keys key → Inserts mid new key
      → TakesReads keys (take (i + 1) all) old new
  takes_more new handle puts = record {
    behind = λ j k h. puts.behind j k (before.behind j k h);
    each = λ k in'. elim (puts.each k in') [
      | inl earlier ↦ each_before k earlier
      | inr same ↦ inr (
        subst (Contains (take (i + 1) all)) same (passed_here all i key at),
        subst (HasHandle keys) same handle,
      )
    ];
    all = λ k in' has. elim (passed_cases all i key at k in') [
      | inl earlier ↦ still_there mid new puts.behind k (before.all k earlier has)
      | inr same ↦ subst (Contains new) same puts.here
    ];
  }

  -- and one that has none
  pub takes_past : (HasHandle keys key → ⊥) → TakesReads keys (take (i + 1) all) old mid
  takes_past none = record {
    behind = before.behind;
    each = each_before;
    all = λ k in' has. elim (passed_cases all i key at k in') [
      | inl earlier ↦ before.all k earlier has
      | inr same ↦ absurd (none (subst (HasHandle keys) (sym same) has))
    ];
  }

-- ---- what is needed

-- cells with formulas are listed, and what is needed alone, and all that the first so many read
pub record IsReading (sheet : Formulas) (keys : State Key) (index : ℕ) (found : List Key) : Type 0 where
  pub cells : (key : Key) → IsFormulaCell sheet key → Contains found key
  pub needed : (key : Key) → Contains found key → IsNeeded sheet keys key
  pub closed : (i : ℕ) → i < index → (key : Key) → slice_get found i ≡ Some key → (read : Key)
      → Contains (reads_of sheet key) read → HasHandle keys read → Contains found read

module _ (sheet : Formulas) (keys : State Key) where
  pub reading_begun : (found : List Key)
      → ((key : Key) → Contains found key ↔ IsFormulaCell sheet key) → IsReading sheet keys 0 found
  reading_begun found cells = record {
    cells = λ key is. (cells key).1 is;
    needed = λ key in'. ([], (cells key).0 in');
    closed = λ i none. absurd (omega (arith, none));
  }

  pub reading_more : (index : ℕ) (old new : List Key) (key : Key) → IsReading sheet keys index old
      → slice_get old index ≡ Some key → TakesReads keys (reads_of sheet key) old new
      → IsReading sheet keys (index + 1) new
  reading_more index old new key before at takes = record {
    cells = λ k is. still k (before.cells k is);
    needed = λ k in'. elim (takes.each k in') [
      | inl earlier ↦ before.needed k earlier
      | inr read ↦
          let reader = before.needed key (of_at old index key at) in
          (key ∷ reader.0, (read.0, read.1, reader.1))
    ];
    closed = λ i less k here read in' handle. elim (cases_lt i index) [
      | inl earlier ↦
          let within = slice_get_within old index key at in
          let was = slice_get-get_or old i k (omega arith) in
          let same = same_Some _ _ (sym (takes.behind i (get_or old i k) was) ∙ here) in
          still read (before.closed i earlier k (was ∙ ap Some same) read in' handle)
      | inr later ↦
          let now : index ≡ i = omega arith in
          let same = same_Some _ _ (sym (takes.behind index key at) ∙ ap (slice_get new) now ∙ here) in
          takes.all read (subst (λ r. Contains (reads_of sheet r) read) (sym same) in') handle
    ];
  }
    where
      still : (k : Key) → Contains old k → Contains new k
      still = still_there old new takes.behind

  pub reading_ended : (index : ℕ) (found : List Key) → IsReading sheet keys index found
      → length found ≤ index → (key : Key) → Contains found key ↔ IsNeeded sheet keys key
  reading_ended index found is all key = (is.needed key, λ needed. go needed.0 key needed.1)
    where
      go : (readers : List Key) (key : Key) → LeadsTo sheet keys readers key → Contains found key
      go [] key cell = is.cells key cell
      go (reader ∷ readers) key leads =
          let at = at_of found reader (go readers reader leads.2) in
          let within = slice_get_within found at.0 reader at.1 in
          is.closed at.0 (omega arith) reader at.1 key leads.0 leads.1

-- ---- their names

-- the names of these queries are listed, and no other
abbrev pub HasNames : State Key → List Key → List Name → Type 0
HasNames keys queries names = (name : Name) → (has names name ≡ true)
    ↔ ((key : Key) × (reads keys name ≡ Some key) × Contains queries key)

module _ (keys : State Key) (all : List Key) (i : ℕ) (key : Key) (at : slice_get all i ≡ Some key) (names : List Name) (before : HasNames keys (take i all) names) where
  -- a query that has a handle
  pub names_more : (n : Name) → reads keys n ≡ Some key
      → ((name : Name) → reads keys name ≡ Some key → n ≡ name)
      → HasNames keys (take (i + 1) all) (names ++ n ∷ [])
  names_more n read once name = (
    λ is. elim (or_cases (same_name name n) (has names name) (sym (any_last (same_name name) names n) ∙ is)) [
      | inl same ↦
          (key, ap (reads keys) (names_same name n same) ∙ read, passed_here all i key at)
      | inr earlier ↦
          let of = (before name).0 earlier in
          (of.0, of.1, passed_before all i key at of.0 of.2)
    ],
    λ of. any_last (same_name name) names n ∙ elim (passed_cases all i key at of.0 of.2) [
      | inl earlier ↦ or_right (same_name name n) _ ((before name).1 (of.0, of.1, earlier))
      | inr same ↦
          or_left (same_name name n) _
          (same_names name n (sym (once name (of.1 ∙ ap Some (sym same)))))
    ],
  )

  -- and one that has none
  pub names_past : (HasHandle keys key → ⊥) → HasNames keys (take (i + 1) all) names
  names_past none name = (
    λ is. let of = (before name).0 is in (of.0, of.1, passed_before all i key at of.0 of.2),
    λ of. elim (passed_cases all i key at of.0 of.2) [
      | inl earlier ↦ (before name).1 (of.0, of.1, earlier)
      | inr same ↦ absurd (none (name, of.1 ∙ ap Some (sym same)))
    ],
  )

-- ---- a collection

no_children : (s : State Key) (name : Name) → children_in (queries_of s) name ≡ []
no_children s name =
    ap children_of (entry_named (λ key. []) s name)
    ∙ go (name.storage == s.number) (entry_at s name.birth)
  where
    go : (t : Bool) (o : Option (Kept Key))
        → children_of (cond t (option_map (as_entry (λ key. []) s name.birth) o) None) ≡ []
    go true (Some k) = refl
    go true None = refl
    go false o = refl

module _ (sheet : Formulas) (old new : State Key) (listed names : List Name) (told : Collected) (is : IsCollection (starts_with listed (queries_of old)) (queries_of old) names told) (left : new ≡ kept_named old (has names)) (needed : AreNeeded sheet old listed) where
  begun : (name : Name) → has names name ≡ true → starts_with listed (queries_of old) name ≡ true
  begun name in' = let path = (is.reached.reached name).0 in' in go path.0 path.1
    where
      go : (before : List Name) → IsPath (starts_with listed (queries_of old)) (queries_of old) before name
          → starts_with listed (queries_of old) name ≡ true
      go [] path = path
      go (parent ∷ before) path =
          let none = sym (ap (λ cs. has cs name) (no_children old parent)) ∙ path.1 in absurd (cc)

  pub cleared : (gone : ℕ) → gone ≡ told.removed → (before after : Counts) → after ≡ before
      → IsCleared (record { sheet = sheet; keys = old; counts = before })
      (record { sheet = sheet; keys = new; counts = after }) gone
  cleared gone same before after stays = record {
    sheet = refl;
    counts = stays;
    names = names;
    keys = left;
    needed = λ name key read. (
      λ in'. elim (or_cases (starts (queries_of old) name) _ (begun name in')) [
        | inl counted ↦ inr counted
        | inr root ↦
            let of = (needed name).0 (and_parts (is_entry (queries_of old) name) _ root).1 in
            inl (subst (IsNeeded sheet old) (same_Some _ _ (sym of.1 ∙ read)) of.2)
      ],
      λ why. elim why [
        | inl need ↦
            root_kept listed (queries_of old) names is.reached name ((needed name).1 (key, read, need))
            (entry_read (λ k. []) old name ∙ ap is_some read)
        | inr counted ↦ counted_kept listed (queries_of old) names is.reached name counted
      ],
    );
    count =
        (λ i. same i + sym (size new) i) ∙ ap (λ es. told.removed + length es)
        (ap queries_of left ∙ entries_kept (λ key. []) old (has names))
        ∙ is.removed ∙ size old;
  }
    where
      size : (s : State Key) → length (queries_of s) ≡ map_of.len s.map
      size s = length-map (map_of.entries s.map) _ ∙ sym (map_of.len-entries s.map)
