-- What a call comes to that interns a value, or values in turn.
use Rattle.std.specs.Prelude.{◌≡◌, ◌⊎◌, ⊤, ℕ, Bool, List, [], ◌∷◌, ◌++◌, Option, None, Some, Result, IfOk}
use Rattle.std.specs.List.{fold}
use Rattle.std.specs.Option.{option_map}
use Rattle.intern_store.specs.Outcome.{Becomes, IsWhy, MayWant}
use Rattle.intern_store.specs.State.{State, reads, counts, is_new, interned, interned_name, due_interning, any_count}
use Rattle.intern_store.specs.declared.names.Name.{Name}
use Rattle.intern_store.specs.declared.refusal.Refusal.{Refusal}
use Rattle.intern_store.specs.declared.refusal.Refusal.TheVariants.{OutOfMemory}
use Rattle.intern_store.specs.declared.refusal.Refused.{Refused}
use Rattle.ra_ap_intern.specs.Handle.{ref_name}
use Rattle.ra_ap_intern.specs.declared.kind.Values.{Values}
use Rattle.ra_ap_intern.specs.declared.storage.Ref.{Ref}

module _ {S V : Type 0} (after : S → V → S) where
  -- none of the values is due to be refused in its turn, where this is the state after each
  abbrev pub NoneDue : (S → V → Option Refusal) → S → List V → Type 0
  NoneDue due s [] = ⊤
  NoneDue due s (v ∷ values) = (due s v ≡ None) × NoneDue due (after s v) values

  module _ {N : Type 0} (gives : S → V → N) where
    -- what the values give in turn
    abbrev pub given_in_turn : S → List V → List N
    given_in_turn s [] = []
    given_in_turn s (v ∷ values) = gives s v ∷ given_in_turn (after s v) values

    -- values were taken in turn, and what they gave is behind what was listed
    pub record AddsInTurn (due_to : S → V → Option Refusal) (old new : S) (values : List V) (listed given : List N) : Type 0 where
      pub due : NoneDue due_to old values
      pub state : new ≡ fold after old values
      pub named : given ≡ listed ++ given_in_turn old values

module _ {V : Type 0} where
  -- what was read is read
  abbrev pub ReadsOn : State V → State V → Type 0
  ReadsOn old new = (n : Name) (v : V) → reads old n ≡ Some v → reads new n ≡ Some v

  -- each name reads what it read, and has the count that it had
  pub record AsBefore (old new : State V) : Type 0 where
    pub read : (n : Name) → reads new n ≡ reads old n
    pub count : (n : Name) → counts new n ≡ counts old n

  -- in collected mode a value is stored unless an equal one is, and the reference that is answered
  -- stands for it, as far as it is seen
  pub record Makes {X : Type 0} (eq : V → V → Bool) (view : V → X)
      (result : Result (Ref (Values V)) Refusal) (old new : State V) (v : V) : Type 0
    where
      pub name : IfOk result (λ r. ref_name r ≡ interned_name eq old v)
      pub refused : MayWant result (due_interning eq old v any_count) (is_new eq old v)
      pub state : Becomes result old new (interned eq old v).state
      pub stands : IfOk result (λ r. option_map view (reads new (ref_name r)) ≡ Some (view v))
      pub stays : ReadsOn old new

  -- the names that values get in turn, where this is the state after each
  abbrev pub names_in_turn : (State V → V → State V) → (V → V → Bool) → State V → List V → List Name
  names_in_turn after eq = given_in_turn after (interned_name eq)

  -- values were interned in turn, and their names are behind those that were listed
  abbrev pub Interns : (State V → V → State V) → (V → V → Bool) → (State V → ℕ → Option Refusal)
      → State V → State V → List V → List Name → List Name → Type 0
  Interns after eq owed = AddsInTurn after (interned_name eq) (λ s v. due_interning eq s v (owed s))

  -- a value is refused as interning it alone is, or for want of memory for the list, where this
  -- holds
  abbrev pub IsOwed : (V → V → Bool) → State V → (ℕ → Option Refusal) → Type 0 → Refused V → Type 0
  IsOwed eq s by_count holds r = IsWhy (due_interning eq s r.back by_count) (is_new eq s r.back) r.why
      ⊎ ((r.why ≡ OutOfMemory) × holds)
