-- What is known of values that are equal exactly if they are seen as the same, and what a
-- collection leaves of them.
use Rattle.std.proofs.Common.{rules, ◌≡◌, ◌↔◌, Bool, true, ◌&&◌, List, [], ◌∷◌, map, Option, Some, None, IsSome, Result, Ok, Err, IfOk, OnErr, refl, sym, ap, subst, ◌∙◌, arith}
use Rattle.std.specs.Cmp.{IsEquivalence}
use Rattle.std.specs.List.{flat_map}
use Rattle.std.specs.Option.{option_eq, option_map}
use Rattle.std.specs.declared.alloc.AllocError.{AllocError}
use Rattle.ra_ap_intern.specs.Families.{IsCollection, entries_of, kept_named}
use Rattle.ra_ap_intern.specs.Handle.{ref_name}
use Rattle.ra_ap_intern.specs.Interning.{Makes}
use Rattle.ra_ap_intern.specs.Name.{Name}
use Rattle.ra_ap_intern.specs.Named.{same_name}
use Rattle.ra_ap_intern.specs.Names.{has}
use Rattle.ra_ap_intern.specs.Outcome.{Becomes, MayWant}
use Rattle.ra_ap_intern.specs.Reach.{Entry, IsReachedSet, Reached, is_entry, starts_with}
use Rattle.ra_ap_intern.specs.Refusal.{Refusal}
use Rattle.ra_ap_intern.specs.State.{State, IsState, reads, counts, is_new, interned, interned_name, interned_counted, name_of_value, due_interning, any_count}
use Rattle.ra_ap_intern.specs.declared.gc.Collected.{Collected}
use Rattle.ra_ap_intern.specs.declared.kind.Values.{Values}
use Rattle.ra_ap_intern.specs.declared.storage.Ref.{Ref}
use Rattle.intern_store.proofs.Named.{names_same, same_names}
use Rattle.intern_store.proofs.Reading.{interned_reads}
use Rattle.ra_ap_intern.proofs.CallerCollections.{kept_reads, kept_counts, root_reads, child_kept, children_read, entry_read}
use Rattle.ra_ap_intern.proofs.CallerInterning.{ReadsEqual, interned_equal, interned_counted_equal, found_reads, none_found, read_found}
use Rattle.ra_ap_intern.proofs.CallerReads.{interned_reads_on, read_once}

-- two names are those of two others
pub names_same_both : (a b x y : Name) → (same_name a x && same_name b y) ≡ true
    → (a ≡ x) × (b ≡ y)
names_same_both a b x y is = grind (arith, names_same a x, names_same b y)

pub same_names_both : (a b x y : Name) → (a ≡ x) × (b ≡ y)
    → (same_name a x && same_name b y) ≡ true
same_names_both a b x y is = grind (arith, same_names a x, same_names b y)

-- two names, if there are any, are one
pub optional_names : (o p : Option Name) → (option_eq same_name o p ≡ true) ↔ (o ≡ p)
optional_names o p = (λ is. grind (arith, names_same), λ is. grind (arith, same_names))

-- what is seen of a value that is read
record IsSeen {V X : Type 0} (view : V → X) (o : Option V) (x : X) : Type 0 where
  pub value : V
  pub read : o ≡ Some value
  pub same : view value ≡ x

seen : {V X : Type 0} (view : V → X) (o : Option V) (x : X) → option_map view o ≡ Some x
    → IsSeen view o x
seen view (Some v) x is = record { value = v; read = refl; same = cc }
seen view None x is = absurd (cc)

-- what is seen is read
pub seen_read : {V X : Type 0} (view : V → X) (o : Option V) (x : X) → option_map view o ≡ Some x
    → IsSome o
seen_read view o x is = grind arith

-- and is seen of it as long as it is read
pub view_stays : {V X : Type 0} (view : V → X) (o p : Option V) (x : X)
    → ((v : V) → o ≡ Some v → p ≡ Some v) → option_map view o ≡ Some x
    → option_map view p ≡ Some x
view_stays view o p x on is = grind (arith, on)

module _ {V X : Type 0} (eq : V → V → Bool) (view : V → X) (alike : (v w : V) → (eq v w ≡ true) ↔ (view v ≡ view w)) where
  -- such an equality is an equivalence
  pub viewed_equivalence : IsEquivalence eq
  viewed_equivalence = record {
    refl = λ v. (alike v v).1 refl;
    symm = λ v w. grind (arith, alike v w, alike w v);
    congr = λ v w z is. grind (arith, alike v w, alike v z, alike w z);
  }

  -- names are equal exactly if what is seen of their values is
  pub names_tell_views : (s : State V) → IsState eq s → (n m : Name) (x y : X)
      → option_map view (reads s n) ≡ Some x → option_map view (reads s m) ≡ Some y
      → (n ≡ m) ↔ (x ≡ y)
  names_tell_views s ok n m x y first second =
      let r = seen view (reads s n) x first in
      let q = seen view (reads s m) y second in (
        λ one.
            grind (arith, first, second),
        λ same.
            read_once eq s ok n m r.value q.value r.read q.read
            ((alike r.value q.value).1 (r.same ∙ same ∙ sym q.same)),
      )

  -- what is interned is seen as it is
  pub interned_view : (s t : State V) (v : V) (name : Name) → name ≡ interned_name eq s v
      → t ≡ (interned eq s v).state → option_map view (reads t name) ≡ Some (view v)
  interned_view s t v name named now =
      let r = interned_reads eq viewed_equivalence s v in
      grind (arith, r.1, r.2, alike v r.0)

  -- and so in counted mode
  pub interned_counted_view : (s t : State V) (v : V) (name : Name) → name ≡ interned_name eq s v
      → t ≡ interned_counted eq s v → option_map view (reads t name) ≡ Some (view v)
  interned_counted_view s t v name named now =
      let r = interned_counted_equal eq viewed_equivalence s t v name named now in
      grind (arith, r.1, r.2, alike v r.0)

  -- a call with these clauses of interning makes a value
  pub makes : (s : State V) → IsState eq s → (v : V) (result : Result (Ref (Values V)) Refusal)
      (new : State V) → IfOk result (λ r. ref_name r ≡ interned_name eq s v)
      → MayWant result (due_interning eq s v any_count) (is_new eq s v)
      → Becomes result s new (interned eq s v).state → Makes eq view result s new v
  makes s ok v (Ok r) new name refused state = record {
    name = name;
    refused = refused;
    state = state;
    stands = interned_view s new v (ref_name r) name state;
    stays = λ n w read. ap (λ t. reads t n) state ∙ interned_reads_on eq s ok v n w read;
  }
  makes s ok v (Err why) new name refused state = record {
    name = name;
    refused = refused;
    state = state;
    stands = search rules;
    stays = λ n w read. ap (λ t. reads t n) state ∙ read;
  }

  -- what a look-up answers is seen as what was looked up
  pub found_view : (s : State V) (v : V) (name : Name) → name_of_value eq s v ≡ Some name
      → option_map view (reads s name) ≡ Some (view v)
  found_view s v name found =
      let r = found_reads eq s v name found in
      grind (arith, r.1, r.2, alike v r.0)

  -- the look-up of what is seen so answers its name
  pub view_found : (s : State V) → IsState eq s → (v : V) (name : Name)
      → option_map view (reads s name) ≡ Some (view v) → name_of_value eq s v ≡ Some name
  view_found s ok v name at =
      let r = seen view (reads s name) (view v) at in
      read_found eq viewed_equivalence s ok v name r.value r.read ((alike v r.value).1 (sym r.same))

  -- and where it answers nothing, nothing is seen so
  pub none_view : (s : State V) (v : V) → name_of_value eq s v ≡ None → (name : Name)
      → option_map view (reads s name) ≡ Some (view v) → ⊥
  none_view s v none name at =
      let r = seen view (reads s name) (view v) at in
      grind (arith, none_found eq s v none name r.value r.read, alike v r.value, r.same)

-- values that are equal exactly if they are the same
module _ {V : Type 0} (eq : V → V → Bool) (alike : (v w : V) → (eq v w ≡ true) ↔ (v ≡ w)) where
  identity_equivalence : IsEquivalence eq
  identity_equivalence = viewed_equivalence eq (λ v. v) alike

  -- an equal value that is read is this one
  pub equal_itself : (s : State V) (name : Name) (v : V) → ReadsEqual eq s name v
      → reads s name ≡ Some v
  equal_itself s name v r = r.1 ∙ ap Some (sym ((alike v r.0).0 r.2))

  -- what is interned is read as it is
  pub interned_itself : (s t : State V) (v : V) (name : Name) → name ≡ interned_name eq s v
      → t ≡ (interned eq s v).state → reads t name ≡ Some v
  interned_itself s t v name named now =
      equal_itself t name v (interned_equal eq identity_equivalence s t v name named now)

  -- and so in counted mode
  pub interned_counted_itself : (s t : State V) (v : V) (name : Name) → name ≡ interned_name eq s v
      → t ≡ interned_counted eq s v → reads t name ≡ Some v
  interned_counted_itself s t v name named now =
      equal_itself t name v (interned_counted_equal eq identity_equivalence s t v name named now)

  -- the look-up of what is read answers its name
  pub found_itself : (s : State V) → IsState eq s → (v : V) (name : Name) → reads s name ≡ Some v
      → name_of_value eq s v ≡ Some name
  found_itself s ok v name read =
      read_found eq identity_equivalence s ok v name v read ((alike v v).1 refl)

  -- and what it answers reads as it is
  pub reads_itself : (s : State V) (v : V) (name : Name) → name_of_value eq s v ≡ Some name
      → reads s name ≡ Some v
  reads_itself s v name found = equal_itself s name v (found_reads eq s v name found)

-- an equality that tells what is seen of two, by a test that tells that too, is the test
pub equality_tested : {H N : Type 0} (eq : H → H → Bool) (test : N → N → Bool) (view : H → N)
    → ((a b : H) → (eq a b ≡ true) ↔ (view a ≡ view b))
    → ((n m : N) → test n m ≡ true → n ≡ m) → ((n : N) → test n n ≡ true)
    → (a b : H) → eq a b ≡ test (view a) (view b)
equality_tested eq test view alike same itself a b =
    grind (arith, alike a b, same (view a) (view b), itself (view a))

-- handles' equality is that of their names
pub handles_tested : {H : Type 0} (eq : H → H → Bool) (name : H → Name)
    → ((a b : H) → (eq a b ≡ true) ↔ (name a ≡ name b))
    → (a b : H) → eq a b ≡ same_name (name a) (name b)
handles_tested eq name alike =
    equality_tested eq same_name name alike names_same (λ n. same_names n n refl)

-- what a collection keeps of a reached value: those of its parts that are read
pub part_kept : {V X : Type 0} (view : V → X) (parts : X → List Name) (begins : Name → Bool)
    (s : State V) (names : List Name)
    → IsReachedSet begins (entries_of (λ v. parts (view v)) s) names → (n m : Name) (x : X)
    → has names n ≡ true → option_map view (reads s n) ≡ Some x → has (parts x) m ≡ true
    → IsSome (reads s m) → has names m ≡ true
part_kept {V} view parts begins s names is n m x kept at part there =
    let r = seen view (reads s n) x at in
    let children : V → List Name = λ v. parts (view v) in
    child_kept begins (entries_of children s) names is n m kept
    (ap (λ ns. has ns m) (children_read children s n r.value r.read ∙ ap parts r.same) ∙ part)
    (entry_read children s m ∙ there)

-- of a storage that is a family, or within one of nested pairs: what paths reach reads after a
-- collection what it read, and has the count that it had
module _ {F V : Type 0} (part : F → State V) (kept : F → (Name → Bool) → F) (of_part : (f : F) (set : Name → Bool) → part (kept f set) ≡ kept_named (part f) set) (begins : Name → Bool) (all : List Entry) (s t : F) where
  -- what a collection answers, and leaves of the family
  abbrev pub Collects : Result Collected AllocError → Type 0
  Collects r = IfOk r (λ told. (names : List Name) × IsCollection begins all names told
      × (t ≡ kept s (has names))) × OnErr r (t ≡ s)

  -- what holds where the family is cut to what is reached holds after a collection, if it held
  -- before
  pub collected : (P : F → Type 0) → P s
      → ((names : List Name) → IsReachedSet begins all names → P (kept s (has names)))
      → (r : Result Collected AllocError) → Collects r → P t
  collected P whole cut (Ok told) is = subst P (sym is.0.2) (cut is.0.0 is.0.1.reached)
  collected P whole cut (Err e) is = subst P (sym is.1) whole

  pub collected_reads : (r : Result Collected AllocError) → Collects r → (name : Name)
      → Reached begins all name → reads (part t) name ≡ reads (part s) name
  collected_reads r is name path =
      collected (λ f. reads (part f) name ≡ reads (part s) name) refl (λ names set.
      ap (λ p. reads p name) (of_part s (has names))
      ∙ kept_reads (part s) (has names) name ((set.reached name).1 path)) r is

  pub collected_counts : (r : Result Collected AllocError) → Collects r → (name : Name)
      → Reached begins all name → counts (part t) name ≡ counts (part s) name
  collected_counts r is name path =
      collected (λ f. counts (part f) name ≡ counts (part s) name) refl (λ names set.
      ap (λ p. counts p name) (of_part s (has names))
      ∙ kept_counts (part s) (has names) name ((set.reached name).1 path)) r is

-- and so does a root, also where it reads nothing
pub collected_root : {F V : Type 0} (part : F → State V) (kept : F → (Name → Bool) → F)
    (of_part : (f : F) (set : Name → Bool) → part (kept f set) ≡ kept_named (part f) set)
    (children : V → List Name) (listed : List Name) (all : List Entry) (s t : F)
    (r : Result Collected AllocError)
    → Collects part kept of_part (starts_with listed all) all s t r
    → (name : Name) → has listed name ≡ true
    → (is_entry (entries_of children (part s)) name ≡ true → is_entry all name ≡ true)
    → reads (part t) name ≡ reads (part s) name
collected_root part kept of_part children listed all s t r is name among within =
    collected part kept of_part (starts_with listed all) all s t
    (λ f. reads (part f) name ≡ reads (part s) name) refl (λ names set.
    ap (λ p. reads p name) (of_part s (has names))
    ∙ root_reads children (part s) all listed names set name among within) r is

-- the same of a storage that is collected alone
module _ {V : Type 0} (children : V → List Name) where
  -- what a collection answers, and leaves of it
  abbrev pub CollectsOne : (Name → Bool) → State V → State V → Result Collected AllocError → Type 0
  CollectsOne begins s t r =
      Collects (λ (f : State V). f) kept_named (λ f set. refl) begins (entries_of children s) s t r

  module _ (begins : Name → Bool) (s t : State V) (r : Result Collected AllocError) (is : CollectsOne begins s t r) where
    -- what holds of a storage that is cut to what is reached, and of this one
    pub one_collected : (P : State V → Type 0) → P s
        → ((names : List Name) → IsReachedSet begins (entries_of children s) names
        → P (kept_named s (has names)))
        → P t
    one_collected P whole cut =
        collected (λ f. f) kept_named (λ f set. refl) begins (entries_of children s) s t P whole cut r is

    pub reads_collected : (name : Name) → Reached begins (entries_of children s) name
        → reads t name ≡ reads s name
    reads_collected =
        collected_reads (λ f. f) kept_named (λ f set. refl) begins (entries_of children s) s t r is

    pub counts_collected : (name : Name) → Reached begins (entries_of children s) name
        → counts t name ≡ counts s name
    counts_collected =
        collected_counts (λ f. f) kept_named (λ f set. refl) begins (entries_of children s) s t r is

  pub root_collected : (listed : List Name) (s t : State V) (r : Result Collected AllocError)
      → CollectsOne (starts_with listed (entries_of children s)) s t r
      → (name : Name) → has listed name ≡ true → reads t name ≡ reads s name
  root_collected listed s t r is name among =
      collected_root (λ f. f) kept_named (λ f set. refl) children listed (entries_of children s) s t
      r is name among (λ there. there)

-- where each declares one name, their names are listed
pub listed_singly : {V : Type 0} (name : V → Name) (vs : List V)
    → flat_map (λ v. name v ∷ []) vs ≡ map name vs
listed_singly name [] = refl
listed_singly name (v ∷ vs) = ap (λ names. name v ∷ names) (listed_singly name vs)
