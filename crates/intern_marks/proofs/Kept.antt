-- What is marked, told by slots, and what a change of the slots does to it.
use Rattle.std.proofs.Common.{Vec, Global, vec_len, vec_capacity, ◌≡◌, ℕ, ◌≤◌, Bool, true, false, cond, List, [], ◌∷◌, ◌++◌, map as list_map, Option, Some, IsSome, is_some, refl, ap, ◌∙◌, subst, arith}
use Rattle.std.specs.List.{All, slice_get}
use Rattle.std.specs.Option.{option_map}
use Rattle.std.proofs.lemmas.Bool.Decides.{nat_tests}
use Rattle.std.proofs.lemmas.List.{length-map, map-append}
use Rattle.std.proofs.lemmas.List.Elements.{All-nil, All-head, All-tail, All-weaker, All-push, All-get_or}
use Rattle.std.proofs.lemmas.Option.{slice_get_within, get_or_from_slice_get}
use Rattle.intern_store.specs.declared.names.Name.{Name}
use Rattle.intern_marks.specs.Parts.{Follow}
use Rattle.intern_marks.specs.Slotted.{slot_count, registered_at, name_in, names_at, AreTaken}
use Rattle.intern_marks.specs.Tied.{IsLed, IsTied, IsKept}
use Rattle.intern_marks.specs.declared.flags.Registered.{Registered}
use Rattle.intern_marks.specs.declared.found.Table.{Table}
use Rattle.intern_marks.specs.declared.slots.Slots.{Slots}
use Rattle.intern_marks.proofs.Slotted.{IsWritten, written_here}
use Rattle.intern_marks.proofs.Tied.{fewer, nothing_tied, same_tied}

-- a function that does the same to each element
map_same : {A B : Type 0} (f g : A → B) (xs : List A) → All (λ x. f x ≡ g x) xs → list_map f xs ≡ list_map g xs
map_same f g [] same = refl
map_same f g (x ∷ xs) same = λ k. All-head (λ x. f x ≡ g x) x xs same k ∷ map_same f g xs (All-tail (λ x. f x ≡ g x) x xs same) k

pub named_in : (o : Option Registered) → IsSome o → option_map (λ (r : Registered). r.name) o ≡ Some (name_in o)
named_in o some = grind arith

-- a slot is written, which was vacant or had the same name
module _ (s next : Slots) (i : ℕ) (r : Registered) (write : IsWritten (registered_at s) (registered_at next) i r)
    (stays : (q : Registered) → registered_at s i ≡ Some q → q.name ≡ r.name) where
  still : (j : ℕ) → IsSome (registered_at s j) → IsSome (registered_at next j) × (name_in (registered_at next j) ≡ name_in (registered_at s j))
  still j some = grind (arith, nat_tests, write j, stays)

  module _ (slots : List ℕ) (taken : AreTaken s slots) where
    names_stay : names_at next slots ≡ names_at s slots
    names_stay = map_same _ _ slots (All-weaker (λ j. IsSome (registered_at s j)) _ (λ j some. (still j some).1) slots taken)

    taken_still : AreTaken next slots
    taken_still = All-weaker (λ j. IsSome (registered_at s j)) (λ j. IsSome (registered_at next j)) (λ j some. (still j some).0) slots taken

    pub names_grown : (b : Bool) → names_at next (cond b (slots ++ i ∷ []) slots) ≡ cond b (names_at s slots ++ r.name ∷ []) (names_at s slots)
    names_grown true =
        map-append (λ j. name_in (registered_at next j)) slots (i ∷ [])
        ∙ (λ k. names_stay k ++ name_in (written_here (registered_at s) (registered_at next) i r write k) ∷ [])
    names_grown false = names_stay

    taken_grown : (b : Bool) → AreTaken next (cond b (slots ++ i ∷ []) slots)
    taken_grown true = All-push (λ j. IsSome (registered_at next j)) slots i taken_still (ap is_some (written_here (registered_at s) (registered_at next) i r write))
    taken_grown false = taken_still

    -- so what is tied is kept, with the slot marked or not
    pub kept_grown : (b : Bool) (t : Table) (size visits capacity : ℕ) → IsTied next t size (cond b (names_at s slots ++ r.name ∷ []) (names_at s slots)) visits capacity
        → IsKept next t size (cond b (slots ++ i ∷ []) slots) visits capacity
    kept_grown b t size visits capacity tied = record { tied = rw (names_grown b) tied; taken = taken_grown b }

-- nothing is marked
pub nothing_kept : (s : Slots) (t : Table) (slots : List ℕ) (capacity : ℕ) → slot_count s ≡ 0 → s.parts.items ≡ [] → t.is_filled ≡ false → slots ≡ [] → IsKept s t 0 slots 0 capacity
nothing_kept s t slots capacity none parts empty_table unmarked = record {
  tied = nothing_tied s t (names_at s slots) capacity none parts empty_table (ap (names_at s) unmarked);
  taken = rw unmarked (All-nil (λ i. IsSome (registered_at s i)));
}

-- as many slots as names are marked
pub fewer_slots : {s : Slots} {t : Table} {size : ℕ} (slots : Vec ℕ Global) {visits : ℕ} → IsKept s t size slots.items visits (vec_capacity slots) → vec_len slots ≤ size
fewer_slots {s} slots kept =
    omega (arith, fewer kept.tied, length-map slots.items (λ i. name_in (registered_at s i)), slots.ok.0)

module _ {s : Slots} {t : Table} {size : ℕ} {slots : List ℕ} {visits capacity : ℕ} (kept : IsKept s t size slots visits capacity) where
  abbrev marked : List Name
  marked = names_at s slots

  -- a marked slot isn't vacant
  pub marked_taken : (k i : ℕ) → slice_get slots k ≡ Some i → IsSome (registered_at s i)
  marked_taken k i is = subst (λ i. IsSome (registered_at s i)) (get_or_from_slice_get slots k i i is)
      (All-get_or (λ i. IsSome (registered_at s i)) slots k i (slice_get_within slots k i is) kept.taken)

  -- slots that have the same in them
  module _ (next : Slots) (same : (i : ℕ) → registered_at next i ≡ registered_at s i) (count : slot_count next ≡ slot_count s) where
    pub same_marked : names_at next slots ≡ marked
    same_marked k = list_map (λ i. name_in (same i k)) slots

    pub same_kept : Follow 0 next.parts.items (slot_count next) → (u : Table) → IsLed s u → IsKept next u size slots visits capacity
    same_kept follow u led = record {
      tied = rw same_marked (same_tied kept.tied next same count follow u led);
      taken = All-weaker (λ i. IsSome (registered_at s i)) (λ i. IsSome (registered_at next i)) (λ i some. ap is_some (same i) ∙ some) slots kept.taken;
    }
