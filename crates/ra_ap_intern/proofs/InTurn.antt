-- Values that are interned in turn: what their names read, and which names are one.
use Rattle.std.proofs.Common.{◌≡◌, ℕ, zero, suc, ◌<◌, Bool, true, List, [], ◌∷◌, ◌++◌, Option, Some, None, refl, sym, ap, ◌∙◌, append_assoc}
use Rattle.std.specs.Prelude.{◌↔◌}
use Rattle.std.specs.Cmp.{IsEquivalence}
use Rattle.std.specs.List.{fold, slice_get}
use Rattle.std.proofs.lemmas.List.Sums.{fold-append}
use Rattle.std.proofs.lemmas.Option.{same_Some}
use Rattle.intern_store.proofs.Reading.{interned_reads}
use Rattle.ra_ap_intern.specs.Interning.{given_in_turn, names_in_turn, NoneDue, AddsInTurn}
use Rattle.ra_ap_intern.specs.Name.{Name}
use Rattle.ra_ap_intern.specs.Refusal.{Refusal}
use Rattle.ra_ap_intern.specs.State.{State, IsState, reads, interned, interned_name, interned_counted}
use Rattle.ra_ap_intern.proofs.CallerInterning.{telling_alike, ReadsEqual, IsTelling, state_telling, interned_telling, counted_telling, interned_counted_reads}
use Rattle.ra_ap_intern.proofs.CallerReads.{interned_reads_given, interned_counted_reads_given}

module _ {S V N : Type 0} (after : S → V → S) (gives : S → V → N) where
  -- what a value gives behind others
  given_push : (s : S) (values : List V) (v : V)
      → given_in_turn after gives s (values ++ v ∷ []) ≡ given_in_turn after gives s values ++ gives (fold after s values) v ∷ []
  given_push s [] v = refl
  given_push s (w ∷ values) v = ap (λ given. gives s w ∷ given) (given_push (after s w) values v)

  module _ (due : S → V → Option Refusal) where
    -- one value more isn't due
    due_push : (s : S) (values : List V) (v : V) → NoneDue after due s values
        → due (fold after s values) v ≡ None → NoneDue after due s (values ++ v ∷ [])
    due_push s [] v before free = (free, tt)
    due_push s (w ∷ values) v before free = (before.0, due_push (after s w) values v before.1 free)

    -- one value more is taken
    pub one_more : (old new : S) (values : List V) (listed given : List N) (v : V)
        → AddsInTurn after gives due old new values listed given → due new v ≡ None
        → AddsInTurn after gives due old (after new v) (values ++ v ∷ []) listed (given ++ gives new v ∷ [])
    one_more old new values listed given v turn free = record {
      due = due_push old values v turn.due (ap (λ s. due s v) (sym turn.state) ∙ free);
      state = ap (λ s. after s v) turn.state ∙ sym (fold-append after old values (v ∷ []));
      named = (λ k. turn.named k ++ gives (turn.state k) v ∷ [])
          ∙ append_assoc listed (given_in_turn after gives old values) (gives (fold after old values) v ∷ [])
          ∙ ap (λ more. listed ++ more) (sym (given_push old values v));
    }

module _ {V : Type 0} (after : State V → V → State V) (eq : V → V → Bool) where
  -- a step that interns a value: what it names reads an equal value, and what was given reads what
  -- it read
  pub record IsInterning : Type 0 where
    pub named : (s : State V) (v : V) → ReadsEqual eq (after s v) (interned_name eq s v) v
    pub given : (s : State V) (v : V) (name : Name) → name.birth < s.next → reads (after s v) name ≡ reads s name
    pub telling : (s : State V) (v : V) → IsTelling eq s → IsTelling eq (after s v)

  module _ (step : IsInterning) where
    -- what is read is read after values are interned in turn
    read_on : (s : State V) → IsTelling eq s → (values : List V) (name : Name) (v : V) → reads s name ≡ Some v
        → reads (fold after s values) name ≡ Some v
    read_on s is [] name v read = read
    read_on s is (w ∷ values) name v read =
        read_on (after s w) (step.telling s w is) values name v (step.given s w name (is.below name v read) ∙ read)

    telling_on : (s : State V) → IsTelling eq s → (values : List V) → IsTelling eq (fold after s values)
    telling_on s is [] = is
    telling_on s is (v ∷ values) = telling_on (after s v) (step.telling s v is) values

    each_reads : (s : State V) → IsTelling eq s → (values : List V) (i : ℕ) (v : V) → slice_get values i ≡ Some v
        → (name : Name) × (slice_get (names_in_turn after eq s values) i ≡ Some name) × ReadsEqual eq (fold after s values) name v
    each_reads s is [] i v at = absurd (cc)
    each_reads s is (w ∷ values) zero v at =
        let r = step.named s w in
        let on = read_on (after s w) (step.telling s w is) values (interned_name eq s w) r.0 r.1 in
        (interned_name eq s w, refl, (r.0, on, ap (λ x. eq x r.0) (sym (same_Some _ _ at)) ∙ r.2))
    each_reads s is (w ∷ values) (suc i) v at = each_reads (after s w) (step.telling s w is) values i v at

    module _ (laws : IsEquivalence eq) (s : State V) (ok : IsState eq s) (values : List V) where
      -- what is read before is read after
      pub in_turn_reads_on : (name : Name) (v : V) → reads s name ≡ Some v → reads (fold after s values) name ≡ Some v
      in_turn_reads_on = read_on s (state_telling eq s ok) values

      -- each name reads a value equal to its own
      pub in_turn_reads : (i : ℕ) (v : V) → slice_get values i ≡ Some v
          → (name : Name) × (slice_get (names_in_turn after eq s values) i ≡ Some name) × ReadsEqual eq (fold after s values) name v
      in_turn_reads = each_reads s (state_telling eq s ok) values

      -- two of the names are one exactly if their values are equal
      pub in_turn_alike : (i j : ℕ) (v w : V) (n m : Name) → slice_get values i ≡ Some v → slice_get values j ≡ Some w
          → slice_get (names_in_turn after eq s values) i ≡ Some n → slice_get (names_in_turn after eq s values) j ≡ Some m
          → (n ≡ m) ↔ (eq v w ≡ true)
      in_turn_alike i j v w n m first second named_first named_second =
          let a = in_turn_reads i v first in
          let b = in_turn_reads j w second in
          let is_n = same_Some _ _ (sym a.1 ∙ named_first) in
          let is_m = same_Some _ _ (sym b.1 ∙ named_second) in
          telling_alike eq laws (fold after s values) (telling_on s (state_telling eq s ok) values) n m v w a.2.0 b.2.0
          (ap (reads (fold after s values)) (sym is_n) ∙ a.2.1) a.2.2 (ap (reads (fold after s values)) (sym is_m) ∙ b.2.1) b.2.2

module _ {V : Type 0} (eq : V → V → Bool) (laws : IsEquivalence eq) where
  -- in counted mode
  pub interning_counted : IsInterning (interned_counted eq) eq
  interning_counted = record {
    named = interned_counted_reads eq laws;
    given = λ s v. interned_counted_reads_given eq s v;
    telling = λ s v is. counted_telling eq (interned eq s v).state (interned eq s v).birth (interned_telling eq laws s v is);
  }

  -- in collected mode
  pub interning_collected : IsInterning (λ s v. (interned eq s v).state) eq
  interning_collected = record {
    named = interned_reads eq laws;
    given = λ s v. interned_reads_given eq s v;
    telling = interned_telling eq laws;
  }
