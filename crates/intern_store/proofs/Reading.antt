-- What is read after a change.
use Rattle.std.proofs.Common.{◌≡◌, ℕ, Bool, true, Option, Some, None, refl, arith}
use Rattle.std.specs.Cmp.{IsEquivalence}
use Rattle.std.proofs.lemmas.Bool.Decides.{nat_tests}
use Rattle.intern_store.specs.Kept.{Kept, is_at}
use Rattle.intern_store.specs.State.{State, entry_at, name_in, reads, with_count, added, birth_of, or_added, interned, interned_name}
use Rattle.intern_store.specs.declared.names.Name.{Name}
use Rattle.intern_store.proofs.Births.{passing, is_stored}
use Rattle.intern_store.proofs.Compared.{get-inserted}
use Rattle.intern_store.proofs.Later.{recounted_value}

module _ {V : Type 0} where
  -- a count changes nothing that is read
  pub recounted_reads : (f : ℕ → ℕ) (s : State V) (b : ℕ) (n : Name) → reads (with_count f s b (entry_at s b)) n ≡ reads s n
  recounted_reads f s b n = grind (arith, recounted_value f s b n.birth)

  -- the name of an entry reads its value
  pub entry_reads : (s : State V) (b : ℕ) (k : Kept V) → entry_at s b ≡ Some k → reads s (name_in s b) ≡ Some k.value
  entry_reads s b k at = grind (arith, nat_tests)

  -- where an entry is told by a value, it reads an equal one
  pub equal_read : (eq : V → V → Bool) (s : State V) (v : V) (b : ℕ) → is_at eq v (entry_at s b) ≡ true → (w : V) × (reads s (name_in s b) ≡ Some w) × (eq v w ≡ true)
  equal_read eq s v b is = let k = passing (eq v) (entry_at s b) is in (k.0.value, entry_reads s b k.0 k.1, k.2)

  -- what is interned is read: an equal value
  pub interned_reads : (eq : V → V → Bool) → IsEquivalence eq → (s : State V) (v : V) → (w : V) × (reads (interned eq s v).state (interned_name eq s v) ≡ Some w) × (eq v w ≡ true)
  interned_reads eq laws s v = go (birth_of eq s v) refl
    where
      go : (o : Option ℕ) → birth_of eq s v ≡ o → (w : V) × (reads (or_added o s v).state (name_in s (or_added o s v).birth) ≡ Some w) × (eq v w ≡ true)
      go (Some b) is = equal_read eq s v b (is_stored eq s v b is)
      go None is = (v, entry_reads (added s v) s.next (record { value = v; count = 0 }) (grind (arith, nat_tests, get-inserted)), laws.refl v)
