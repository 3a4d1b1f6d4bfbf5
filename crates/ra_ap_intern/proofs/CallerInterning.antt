-- What interning gives, what look-ups answer, and whether two names are one.
use Rattle.std.proofs.Common.{◌≡◌, ℕ, ◌+◌, ◌<◌, Bool, true, false, ◌≢◌, ◌-◌, Option, Some, None, IsSome, is_some, Result, Ok, Err, ◌⊎◌, inl, refl, sym, ap, subst, ◌∙◌, arith}
use Rattle.std.specs.Prelude.{◌↔◌}
use Rattle.std.specs.Option.{option_map}
use Rattle.std.specs.Cmp.{IsEquivalence}
use Rattle.std.proofs.lemmas.Bool.Decides.{nat_tests}
use Rattle.intern_store.specs.declared.refusal.Refused.{Refused}
use Rattle.intern_store.proofs.Births.{not_stored, is_stored}
use Rattle.intern_store.proofs.Compared.{get-inserted, get-removed, get-modified}
use Rattle.intern_store.proofs.Named.{names_same}
use Rattle.intern_store.proofs.Reading.{interned_reads, equal_read}
use Rattle.intern_store.proofs.States.{counted_up-added}
use Rattle.ra_ap_intern.specs.Interning.{AsBefore}
use Rattle.ra_ap_intern.specs.Kept.{recount}
use Rattle.ra_ap_intern.specs.Name.{Name}
use Rattle.ra_ap_intern.specs.Outcome.{OwesBack, Becomes}
use Rattle.ra_ap_intern.specs.State.{State, IsState, entry_at, count_at, name_in, reads, counts, counted_up, added_with, due, zero_count, added, or_added, interned, interned_name, interned_counted, released, birth_of, name_of_value}
use Rattle.ra_ap_intern.proofs.CallerOutcomes.{becomes_ok, owes_back_ok}
use Rattle.ra_ap_intern.proofs.CallerReads.{some_read, read_at, read_below, read_once, reads-added, counts_read, counts-recounted, due_counted, counted_up_reads, interned_reads_given, interned_reads_on, interned_counted_reads_on}

-- what is so exactly if another thing is, and this exactly if a third is
pub iff_trans : {P Q R : Type 0} → (P ↔ Q) → (Q ↔ R) → P ↔ R
iff_trans first second = (λ p. second.0 (first.0 p), λ r. first.1 (second.1 r))

-- what holds before a call, and of the next state, holds after it, refused or not
pub becomes_either : {A E V : Type 0} (P : State V → Type 0) (r : Result A E) (s t next : State V)
    → Becomes r s t next → P s → P next → P t
becomes_either P (Ok a) s t next is before after = subst P (sym is) after
becomes_either P (Err e) s t next is before after = subst P (sym is) before

same_members : {X : Type 0} (a b : Option X) → ((x : X) → a ≡ Some x → b ≡ Some x)
    → ((x : X) → b ≡ Some x → a ≡ Some x) → a ≡ b
same_members a b there back = grind (arith, there, back)

module _ {V : Type 0} (eq : V → V → Bool) where
  -- a value equal to v is read under a name
  abbrev pub ReadsEqual : State V → Name → V → Type 0
  ReadsEqual s name v = (w : V) × (reads s name ≡ Some w) × (eq v w ≡ true)

  -- ---- what an interning gives is read

  -- in counted mode
  pub interned_counted_reads : IsEquivalence eq → (s : State V) (v : V)
      → ReadsEqual (interned_counted eq s v) (interned_name eq s v) v
  interned_counted_reads laws s v =
      let r = interned_reads eq laws s v in
      (r.0, counted_up_reads (interned eq s v).state (interned eq s v).birth _ ∙ r.1, r.2)

  -- the same of a call with these clauses
  pub interned_equal : IsEquivalence eq → (s t : State V) (v : V) (name : Name)
      → name ≡ interned_name eq s v → t ≡ (interned eq s v).state → ReadsEqual t name v
  interned_equal laws s t v name named now =
      let r = interned_reads eq laws s v in (r.0, (λ i. reads (now i) (named i)) ∙ r.1, r.2)

  pub interned_counted_equal : IsEquivalence eq → (s t : State V) (v : V) (name : Name)
      → name ≡ interned_name eq s v → t ≡ interned_counted eq s v → ReadsEqual t name v
  interned_counted_equal laws s t v name named now =
      let r = interned_counted_reads laws s v in (r.0, (λ i. reads (now i) (named i)) ∙ r.1, r.2)

  -- an entry is read
  pub interned_is_read : IsEquivalence eq → (s : State V) (v : V)
      → IsSome (reads (interned eq s v).state (interned_name eq s v))
  interned_is_read laws s v = ap is_some (interned_reads eq laws s v).1

  pub interned_counted_is_read : IsEquivalence eq → (s : State V) (v : V)
      → IsSome (reads (interned_counted eq s v) (interned_name eq s v))
  interned_counted_is_read laws s v = ap is_some (interned_counted_reads laws s v).1

  -- its count isn't zero in counted mode, so the handle can be released
  pub interned_counted_counts : IsEquivalence eq → (s : State V) (v : V)
      → (n : ℕ) × (counts (interned_counted eq s v) (interned_name eq s v) ≡ Some (n + 1))
  interned_counted_counts laws s v =
      let i = interned eq s v in
      let name = interned_name eq s v in
      let c = counts_read i.state name (interned_is_read laws s v) in
      (c.0, grind (arith, nat_tests, c.1, counts-recounted (λ n. n + 1) i.state i.birth name))

  pub interned_counted_due : IsEquivalence eq → (s : State V) (v : V)
      → due (interned_counted eq s v) (interned_name eq s v) zero_count ≡ None
  interned_counted_due laws s v =
      let c = interned_counted_counts laws s v in
      due_counted (interned_counted eq s v) (interned_name eq s v) c.0 c.1

  -- and so a handle that was just given is released, where a later call is refused
  pub interned_undone : IsEquivalence eq → (s : State V) (v : V) (stays : Bool) (t u : State V)
      (name : Name) → t ≡ interned_counted eq s v → name ≡ interned_name eq s v
      → {A H : Type 0} (r : Result A (Refused H)) (handle : H)
      → OwesBack r (due t name zero_count) handle → Becomes r t u (released stays t name.birth)
      → u ≡ released stays (interned_counted eq s v) (interned_name eq s v).birth
  interned_undone laws s v stays t u name counted named r handle owes becomes =
      let free = (λ i. due (counted i) (named i) zero_count) ∙ interned_counted_due laws s v in
      becomes_ok r t u (released stays t name.birth) becomes
      (owes_back_ok r handle (subst (λ d. OwesBack r d handle) free owes))
      ∙ (λ i. released stays (counted i) (named i).birth)

  -- after that each birth has the entry that it had, if it had one that was counted or none
  undone_at : (s : State V) → IsState eq s → (v : V)
      → count_at s (interned eq s v).birth ≢ Some 0 → (b : ℕ)
      → entry_at (released false (interned_counted eq s v) (interned eq s v).birth) b ≡ entry_at s b
  undone_at s ok v counted b = go (birth_of eq s v) refl counted
    where
      go : (o : Option ℕ) → birth_of eq s v ≡ o
          → let i = or_added o s v in count_at s i.birth ≢ Some 0
          → entry_at (released false (counted_up i.state i.birth) i.birth) b ≡ entry_at s b
      go (Some at) is counted =
          grind (
            arith,
            nat_tests,
            is_stored eq s v at is,
            get-modified (recount (λ n. n + 1)) s.map at,
            get-modified (recount (λ n. n - 1)) (counted_up s at).map at b,
          )
      go None is counted =
          grind (
            arith,
            nat_tests,
            counted_up-added s v,
            ok.below s.next,
            get-inserted s.map s.next,
            get-removed (added_with 1 s v).map s.next b,
          )

  -- so that each name reads and counts what it did
  pub undone_as_before : (s : State V) → IsState eq s → (v : V)
      → counts s (interned_name eq s v) ≢ Some 0
      → AsBefore s (released false (interned_counted eq s v) (interned_name eq s v).birth)
  undone_as_before s ok v counted =
      let at = undone_at s ok v (grind (arith, nat_tests, counted)) in
      record { read = λ n. grind (arith, at n.birth); count = λ n. grind (arith, at n.birth) }

  -- ---- what a look-up answers

  -- it reads an equal value
  pub found_reads : (s : State V) (v : V) (name : Name) → name_of_value eq s v ≡ Some name
      → ReadsEqual s name v
  found_reads s v name is =
      let b = some_read (birth_of eq s v) (grind arith) in
      let same : name_in s b.0 ≡ name = grind (arith, b.1) in
      subst (λ n. ReadsEqual s n v) same (equal_read eq s v b.0 (is_stored eq s v b.0 b.1))

  -- where it answers nothing, no name reads an equal value
  pub none_found : (s : State V) (v : V) → name_of_value eq s v ≡ None → (name : Name) (w : V)
      → reads s name ≡ Some w → eq v w ≡ false
  none_found s v none name w read =
      let stored : birth_of eq s v ≡ None = grind arith in
      let other = not_stored eq s v stored name.birth in
      let r = read_at s name w read in grind (arith, r.at, r.same, other)

  -- where no two names read equal values, the look-up of one that is read answers its name
  found_alone : IsEquivalence eq → (s : State V)
      → ((n m : Name) (v w : V) → reads s n ≡ Some v → reads s m ≡ Some w → eq v w ≡ true → n ≡ m)
      → (v : V) (name : Name) (w : V) → reads s name ≡ Some w → eq v w ≡ true
      → name_of_value eq s v ≡ Some name
  found_alone laws s apart v name w read same =
      let some = λ (none : name_of_value eq s v ≡ None). none_found s v none name w read in
      let n = some_read (name_of_value eq s v) (grind (arith, some)) in
      let r = found_reads s v n.0 n.1 in
      let alike = sym (laws.congr v r.0 w r.2) ∙ same in
      n.1 ∙ ap Some (apart n.0 name r.0 w r.1 read alike)

  -- the look-up of what is read answers its name
  pub read_found : IsEquivalence eq → (s : State V) → IsState eq s → (v : V) (name : Name) (w : V)
      → reads s name ≡ Some w → eq v w ≡ true → name_of_value eq s v ≡ Some name
  read_found laws s ok = found_alone laws s (read_once eq s ok)

  -- ---- whether two names are one

  -- what names need to tell values: each that is read was given, and no two read equal values
  pub record IsTelling (s : State V) : Type 0 where
    pub below : (name : Name) (v : V) → reads s name ≡ Some v → name.birth < s.next
    pub apart : (n m : Name) (v w : V) → reads s n ≡ Some v → reads s m ≡ Some w
        → eq v w ≡ true → n ≡ m

  pub state_telling : (s : State V) → IsState eq s → IsTelling s
  state_telling s ok = record {
    below = λ name v read. read_below eq s ok name (ap is_some read);
    apart = read_once eq s ok;
  }

  pub counted_telling : (s : State V) (b : ℕ) → IsTelling s → IsTelling (counted_up s b)
  counted_telling s b is = record {
    below = λ name v read. is.below name v (sym (counted_up_reads s b name) ∙ read);
    apart = λ n m v w first second. is.apart n m v w
        (sym (counted_up_reads s b n) ∙ first) (sym (counted_up_reads s b m) ∙ second);
  }

  -- what is read of a state with a new entry is that entry, or was read
  new_or_old : (s : State V) (v : V) (name : Name) (w : V) → reads (added s v) name ≡ Some w
      → ((name ≡ name_in s s.next) × (v ≡ w)) ⊎ (reads s name ≡ Some w)
  new_or_old s v name w read = grind (arith, reads-added s v name, names_same)

  -- what is read after an interning is what was interned, under a new name, or was read
  pub interned_new_or_read : (s : State V) (v : V) (name : Name) (w : V)
      → reads (interned eq s v).state name ≡ Some w
      → ((name ≡ name_in s s.next) × (v ≡ w)) ⊎ (reads s name ≡ Some w)
  interned_new_or_read s v name w read = grind (arith, new_or_old s v name w)

  pub interned_or_read : (s : State V) (v : V) (name : Name) (w : V)
      → reads (interned eq s v).state name ≡ Some w → (v ≡ w) ⊎ (reads s name ≡ Some w)
  interned_or_read s v name w read = grind (arith, interned_new_or_read s v name w read)

  -- ---- what look-ups of other values answer after an interning

  -- the look-up of a value that isn't equal to the interned one finds what it found
  found_elsewhere : IsEquivalence eq → (s t : State V) (v : V) → IsState eq s → IsState eq t
      → ((n : Name) (u : V) → reads s n ≡ Some u → reads t n ≡ Some u)
      → ((n : Name) (u : V) → reads t n ≡ Some u → (v ≡ u) ⊎ (reads s n ≡ Some u)) → (w : V)
      → eq v w ≡ false → name_of_value eq t w ≡ name_of_value eq s w
  found_elsewhere laws s t v ok is on back w other = same_members _ _
      (λ n at.
      let r = found_reads t w n at in
      grind (arith, back n r.0 r.1, laws.symm v w, r.2, read_found laws s ok w n r.0))
      (λ n at. let r = found_reads s w n at in read_found laws t is w n r.0 (on n r.0 r.1) r.2)

  pub interned_found_elsewhere : IsEquivalence eq → (s : State V) (v : V) → IsState eq s
      → IsState eq (interned eq s v).state → (w : V) → eq v w ≡ false
      → name_of_value eq (interned eq s v).state w ≡ name_of_value eq s w
  interned_found_elsewhere laws s v ok is =
      found_elsewhere laws s (interned eq s v).state v ok is (interned_reads_on eq s ok v)
      (interned_or_read s v)

  pub interned_counted_found_elsewhere : IsEquivalence eq → (s : State V) (v : V) → IsState eq s
      → IsState eq (interned_counted eq s v) → (w : V) → eq v w ≡ false
      → name_of_value eq (interned_counted eq s v) w ≡ name_of_value eq s w
  interned_counted_found_elsewhere laws s v ok is =
      let i = interned eq s v in
      found_elsewhere laws s (interned_counted eq s v) v ok is (interned_counted_reads_on eq s ok v)
      (λ n u read. interned_or_read s v n u (sym (counted_up_reads i.state i.birth n) ∙ read))

  added_telling : IsEquivalence eq → (s : State V) (v : V) → IsTelling s
      → name_of_value eq s v ≡ None → IsTelling (added s v)
  added_telling laws s v is none = record {
    below = λ name w read. grind (arith, new_or_old s v name w read, is.below name w);
    apart = λ n m x y first second same.
        grind (
          arith,
          new_or_old s v n x first,
          new_or_old s v m y second,
          is.apart n m x y,
          none_found s v none m y,
          none_found s v none n x,
          laws.symm v x,
        );
  }

  pub interned_telling : IsEquivalence eq → (s : State V) (v : V) → IsTelling s
      → IsTelling (interned eq s v).state
  interned_telling laws s v is = go (birth_of eq s v) refl
    where
      go : (o : Option ℕ) → birth_of eq s v ≡ o → IsTelling (or_added o s v).state
      go (Some b) found = is
      go None none = added_telling laws s v is (ap (option_map (name_in s)) none)

  -- ---- what a look-up answers later

  -- where what was read is read, and nothing more but under one new name: it answers what it did,
  -- or that name in place of none
  found_on : IsEquivalence eq → (s t : State V) (fresh : Name) → IsTelling t
      → ((n : Name) (u : V) → reads s n ≡ Some u → reads t n ≡ Some u)
      → ((n : Name) (u : V) → reads t n ≡ Some u → (n ≡ fresh) ⊎ (reads s n ≡ Some u)) → (w : V)
      → (name_of_value eq t w ≡ name_of_value eq s w)
      ⊎ ((name_of_value eq s w ≡ None) × (name_of_value eq t w ≡ Some fresh))
  found_on laws s t fresh is on back w = go (name_of_value eq s w) (name_of_value eq t w) refl refl
    where
      go : (o p : Option Name) → name_of_value eq s w ≡ o → name_of_value eq t w ≡ p
          → (name_of_value eq t w ≡ name_of_value eq s w)
          ⊎ ((name_of_value eq s w ≡ None) × (name_of_value eq t w ≡ Some fresh))
      go (Some n) p was now =
          let r = found_reads s w n was in
          inl (found_alone laws t is.apart w n r.0 (on n r.0 r.1) r.2 ∙ sym was)
      go None None was now = inl (now ∙ sym was)
      go None (Some m) was now =
          let r = found_reads t w m now in
          grind (arith, r.2, back m r.0 r.1, none_found s w was m r.0)

  -- after an interning it answers what it did, or the new name in place of none
  pub found_or_new : IsEquivalence eq → (s : State V) → IsState eq s → (v w : V)
      → (name_of_value eq (interned eq s v).state w ≡ name_of_value eq s w)
      ⊎ ((name_of_value eq s w ≡ None)
      × (name_of_value eq (interned eq s v).state w ≡ Some (name_in s s.next)))
  found_or_new laws s ok v =
      found_on laws s (interned eq s v).state (name_in s s.next)
      (interned_telling laws s v (state_telling s ok)) (interned_reads_on eq s ok v)
      (λ n u read. grind (arith, interned_new_or_read s v n u read))

  -- and so in counted mode
  pub found_or_new_counted : IsEquivalence eq → (s : State V) → IsState eq s → (v w : V)
      → (name_of_value eq (interned_counted eq s v) w ≡ name_of_value eq s w)
      ⊎ ((name_of_value eq s w ≡ None)
      × (name_of_value eq (interned_counted eq s v) w ≡ Some (name_in s s.next)))
  found_or_new_counted laws s ok v =
      let i = interned eq s v in
      found_on laws s (interned_counted eq s v) (name_in s s.next)
      (counted_telling i.state i.birth (interned_telling laws s v (state_telling s ok)))
      (interned_counted_reads_on eq s ok v)
      (λ n u read.
      grind (arith, interned_new_or_read s v n u (sym (counted_up_reads i.state i.birth n) ∙ read)))

  -- names of values that are equal to two others are one exactly if those two are equal
  pub telling_alike : IsEquivalence eq → (s : State V) → IsTelling s → (n m : Name) (v w x y : V)
      → reads s n ≡ Some x → eq v x ≡ true → reads s m ≡ Some y → eq w y ≡ true
      → (n ≡ m) ↔ (eq v w ≡ true)
  telling_alike laws s is n m v w x y first one second two = (
    λ same. grind (arith, first, second, laws.congr v x w one, laws.symm x w, two),
    λ alike.
        is.apart n m x y first second
        (sym (laws.congr v x y one) ∙ laws.congr v w y alike ∙ two),
  )

  -- a value that is interned gets the name of what is read exactly if the two are equal
  named_alike : IsEquivalence eq → (s : State V) (name : Name) (v x w : V) → IsTelling s
      → reads s name ≡ Some x → eq v x ≡ true → (name ≡ interned_name eq s w) ↔ (eq v w ≡ true)
  named_alike laws s name v x w is read same =
      let r = interned_reads eq laws s w in
      telling_alike laws (interned eq s w).state (interned_telling laws s w is) name
      (interned_name eq s w) v w x r.0
      (interned_reads_given eq s w name (is.below name x read) ∙ read) same r.1 r.2

  -- two values that are interned one after the other get one name exactly if they are equal
  pub interned_twice : IsEquivalence eq → (s : State V) → IsState eq s → (v w : V)
      → (interned_name eq s v ≡ interned_name eq (interned eq s v).state w) ↔ (eq v w ≡ true)
  interned_twice laws s ok v w =
      let r = interned_reads eq laws s v in
      named_alike laws (interned eq s v).state (interned_name eq s v) v r.0 w
      (interned_telling laws s v (state_telling s ok)) r.1 r.2

  -- and so in counted mode
  pub interned_counted_twice : IsEquivalence eq → (s : State V) → IsState eq s → (v w : V)
      → (interned_name eq s v ≡ interned_name eq (interned_counted eq s v) w) ↔ (eq v w ≡ true)
  interned_counted_twice laws s ok v w =
      let i = interned eq s v in
      let r = interned_counted_reads laws s v in
      named_alike laws (interned_counted eq s v) (interned_name eq s v) v r.0 w
      (counted_telling i.state i.birth (interned_telling laws s v (state_telling s ok))) r.1 r.2
