-- What names read, and what they read after each change of a storage.
use Rattle.std.proofs.Common.{◌≡◌, ◌≢◌, ℕ, ◌+◌, ◌-◌, ◌<◌, Bool, true, false, cond, ◌==◌, Option, Some, None, IsSome, is_some, refl, sym, ap, ◌∙◌, arith}
use Rattle.std.specs.Option.{option_map}
use Rattle.std.proofs.lemmas.Bool.Decides.{nat_tests}
use Rattle.intern_store.proofs.Compared.{get-inserted, get-removed, get-modified}
use Rattle.intern_store.proofs.Reading.{recounted_reads}
use Rattle.ra_ap_intern.specs.Kept.{Kept, recount}
use Rattle.ra_ap_intern.specs.Name.{Name}
use Rattle.ra_ap_intern.specs.Named.{same_name}
use Rattle.ra_ap_intern.specs.Refusal.{Refusal}
use Rattle.ra_ap_intern.specs.State.{State, IsState, entry_at, name_in, reads, counts, count_at, with_count, counted_up, counted_down, taken, is_last, released, due, any_count, zero_count, added, interned, interned_counted}

-- some value, where there is one
pub some_read : {V : Type 0} (o : Option V) → IsSome o → (v : V) × (o ≡ Some v)
some_read (Some v) is = (v, refl)
some_read None is = absurd (cc)

module _ {V : Type 0} where
  abbrev value : Option (Kept V) → Option V
  value = option_map (λ k. k.value)

  -- what is read is that of an entry
  pub record IsReadAt (s : State V) (name : Name) (v : V) : Type 0 where
    pub home : name.storage ≡ s.number
    pub kept : Kept V
    pub at : entry_at s name.birth ≡ Some kept
    pub same : kept.value ≡ v

  pub read_at : (s : State V) (name : Name) (v : V) → reads s name ≡ Some v → IsReadAt s name v
  read_at s name v is =
      let k = some_read (entry_at s name.birth) (grind arith) in
      record { home = grind (arith, nat_tests); kept = k.0; at = k.1; same = grind (arith, k.1) }

  -- the birth of what is read was given
  pub read_below : (eq : V → V → Bool) (s : State V) → IsState eq s → (name : Name)
      → IsSome (reads s name) → name.birth < s.next
  read_below eq s ok name is =
      let v = some_read _ is in
      let r = read_at s name v.0 v.1 in
      ok.below name.birth (ap is_some r.at)

  -- names that read equal values are equal
  pub read_once : (eq : V → V → Bool) (s : State V) → IsState eq s → (n m : Name) (v w : V)
      → reads s n ≡ Some v → reads s m ≡ Some w → eq v w ≡ true → n ≡ m
  read_once eq s ok n m v w first second same =
      let r = read_at s n v first in
      let q = read_at s m w second in
      let birth = ok.apart n.birth m.birth r.kept q.kept r.at q.at
      (ap (λ x. eq x q.kept.value) r.same ∙ ap (eq v) q.same ∙ same) in
      let storage = r.home ∙ sym q.home in
      λ i. record { storage = storage i; birth = birth i }

  -- a name has an entry, which this test of its count lets pass
  pub record IsThere (s : State V) (name : Name) (test : ℕ → Option Refusal) : Type 0 where
    pub kept : Kept V
    pub home : name.storage ≡ s.number
    pub at : entry_at s name.birth ≡ Some kept
    pub passes : test kept.count ≡ None

  -- where nothing is due
  pub is_there : (s : State V) (name : Name) (test : ℕ → Option Refusal) → due s name test ≡ None
      → IsThere s name test
  is_there s name test is =
      let k = some_read (entry_at s name.birth) (grind arith) in
      record { kept = k.0; home = grind (arith, nat_tests); at = k.1; passes = grind (arith, k.1) }

  -- a name is read where nothing is due of it
  pub read_due : (s : State V) (name : Name) → due s name any_count ≡ None → IsSome (reads s name)
  read_due s name is = grind arith

  -- a new entry reads its value, and each other name what it read
  pub reads-added : (s : State V) (w : V) (name : Name)
      → reads (added s w) name ≡ cond (same_name name (name_in s s.next)) (Some w) (reads s name)
  reads-added s w name = grind (arith, get-inserted s.map s.next (record { value = w; count = 0 }) name.birth)

  -- ---- counts

  -- what is read has a count
  pub counts_read : (s : State V) (name : Name) → IsSome (reads s name)
      → (n : ℕ) × (counts s name ≡ Some n)
  counts_read s name is = some_read (counts s name) (grind arith)

  -- a handle whose entry has a count can be released
  pub due_counted : (s : State V) (name : Name) (n : ℕ) → counts s name ≡ Some (n + 1)
      → due s name zero_count ≡ None
  due_counted s name n is = grind (arith, nat_tests)

  -- a change of a count changes that of its name alone
  pub counts-recounted : (f : ℕ → ℕ) (s : State V) (b : ℕ) (name : Name)
      → counts (with_count f s b (entry_at s b)) name
      ≡ cond (same_name name (name_in s b)) (option_map f (counts s name)) (counts s name)
  counts-recounted f s b name = grind (arith, get-modified (recount f) s.map b name.birth)

  -- ---- after a count

  pub counted_up_reads : (s : State V) (b : ℕ) (name : Name)
      → reads (counted_up s b) name ≡ reads s name
  counted_up_reads s b name = recounted_reads (λ n. n + 1) s b name

  pub counted_down_reads : (s : State V) (b : ℕ) (name : Name)
      → reads (counted_down s b) name ≡ reads s name
  counted_down_reads s b name = recounted_reads (λ n. n - 1) s b name

  -- ---- after an interning

  -- a name whose birth was given reads what it read
  pub interned_reads_given : (eq : V → V → Bool) (s : State V) (w : V) (name : Name)
      → name.birth < s.next → reads (interned eq s w).state name ≡ reads s name
  interned_reads_given eq s w name given = grind (arith, nat_tests, reads-added s w name)

  -- the same where it is counted once more
  pub interned_counted_reads_given : (eq : V → V → Bool) (s : State V) (w : V) (name : Name)
      → name.birth < s.next → reads (interned_counted eq s w) name ≡ reads s name
  interned_counted_reads_given eq s w name given =
      counted_up_reads (interned eq s w).state (interned eq s w).birth name
      ∙ interned_reads_given eq s w name given

  -- what is read is read after an interning
  pub interned_reads_on : (eq : V → V → Bool) (s : State V) → IsState eq s → (w : V) (name : Name)
      (v : V) → reads s name ≡ Some v → reads (interned eq s w).state name ≡ Some v
  interned_reads_on eq s ok w name v read =
      interned_reads_given eq s w name (read_below eq s ok name (ap is_some read)) ∙ read

  pub interned_counted_reads_on : (eq : V → V → Bool) (s : State V) → IsState eq s → (w : V)
      (name : Name) (v : V) → reads s name ≡ Some v → reads (interned_counted eq s w) name ≡ Some v
  interned_counted_reads_on eq s ok w name v read =
      interned_counted_reads_given eq s w name (read_below eq s ok name (ap is_some read)) ∙ read

  -- ---- after a release

  -- what holds where the entry is taken out, and where it is counted once less, holds
  pub released_either : (P : State V → Type 0) (stays : Bool) (s : State V) (b : ℕ) → P (taken s b)
      → P (counted_down s b) → P (released stays s b)
  released_either P stays s b out less = go (is_last stays s b)
    where
      go : (t : Bool) → P (cond t (taken s b) (counted_down s b))
      go true = out
      go false = less

  -- what is seen of an entry of another birth is what was seen of it
  taken_sees : {X : Type 0} (see : Kept V → X) (s : State V) (b : ℕ) (name : Name) → name.birth ≢ b
      → cond (name.storage == s.number) (option_map see (entry_at (taken s b) name.birth)) None
      ≡ cond (name.storage == s.number) (option_map see (entry_at s name.birth)) None
  taken_sees see s b name other = grind (arith, nat_tests, get-removed s.map b name.birth)

  -- a name of another birth reads what it read
  pub taken_reads : (s : State V) (b : ℕ) (name : Name) → name.birth ≢ b
      → reads (taken s b) name ≡ reads s name
  taken_reads = taken_sees (λ k. k.value)

  pub released_reads : (stays : Bool) (s : State V) (b : ℕ) (name : Name) → name.birth ≢ b
      → reads (released stays s b) name ≡ reads s name
  released_reads stays s b name other =
      released_either (λ t. reads t name ≡ reads s name) stays s b
      (taken_reads s b name other) (counted_down_reads s b name)

  -- and has the count that it had
  pub taken_counts : (s : State V) (b : ℕ) (name : Name) → name.birth ≢ b
      → counts (taken s b) name ≡ counts s name
  taken_counts = taken_sees (λ k. k.count)

  pub released_counts : (stays : Bool) (s : State V) (b : ℕ) (name : Name) → name.birth ≢ b
      → counts (released stays s b) name ≡ counts s name
  released_counts stays s b name other =
      released_either (λ t. counts t name ≡ counts s name) stays s b
      (taken_counts s b name other)
      (grind (arith, nat_tests, counts-recounted (λ n. n - 1) s b name))

  -- where the entry isn't taken out, each name reads what it read
  pub released_reads_all : (stays : Bool) (s : State V) (b : ℕ) → is_last stays s b ≡ false
      → (name : Name) → reads (released stays s b) name ≡ reads s name
  released_reads_all stays s b more name = grind (arith, counted_down_reads s b name)

  -- an entry that is counted more than once isn't taken out
  pub not_last : (stays : Bool) (s : State V) (b n : ℕ) → count_at s b ≡ Some n → 1 < n
      → is_last stays s b ≡ false
  not_last stays s b n is more = grind (arith, nat_tests)

  -- nor is one in collected mode
  pub stays_not_last : (s : State V) (b : ℕ) → is_last true s b ≡ false
  stays_not_last s b = refl
