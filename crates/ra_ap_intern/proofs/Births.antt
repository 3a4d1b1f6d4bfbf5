-- The next birth after each change of a storage.
use Rattle.std.proofs.Common.{◌≡◌, ℕ, ◌+◌, Bool, List, Some, None, refl, ap, ◌∙◌, arith}
use Rattle.std.specs.Str.{bytes_eq}
use Rattle.intern_presets.specs.Presets.{place_of}
use Rattle.intern_store.specs.State.{State, released, birth_of, or_added, interned, name_in}
use Rattle.ra_ap_intern.specs.Symbols.{Named, symbol_at, symbol_in, at_entry}
use Rattle.ra_ap_intern.specs.Symbols.Named.{preset, entry}

module _ {V : Type 0} where
  pub next-released : (stays : Bool) (s : State V) (b : ℕ) → (released stays s b).next ≡ s.next
  next-released stays s b = grind arith

  -- a value without a birth gets the next one, which is past it then
  pub birth-fresh : (eq : V → V → Bool) (s : State V) (v : V) → birth_of eq s v ≡ None → (interned eq s v).birth ≡ s.next
  birth-fresh eq s v is = ap (λ o. (or_added o s v).birth) is

  pub next-given : (eq : V → V → Bool) (s : State V) (v : V) → birth_of eq s v ≡ None → (interned eq s v).state.next ≡ s.next + 1
  next-given eq s v is = ap (λ o. (or_added o s v).state.next) is

  pub next-stored : (eq : V → V → Bool) (s : State V) (v : V) (b : ℕ) → birth_of eq s v ≡ Some b → (interned eq s v).state.next ≡ s.next
  next-stored eq s v b is = ap (λ o. (or_added o s v).state.next) is

-- the same of a table's texts
pub symbol-fresh : (s : State (List ℕ)) (t : List ℕ) → place_of t ≡ None → birth_of bytes_eq s t ≡ None
    → (symbol_in s t).symbol ≡ entry (name_in s s.next)
symbol-fresh s t other is = ap (λ p. (symbol_at p s t).symbol) other ∙ ap (λ b. entry (name_in s b)) (birth-fresh bytes_eq s t is)

pub next-symbol_given : (s : State (List ℕ)) (t : List ℕ) → place_of t ≡ None → birth_of bytes_eq s t ≡ None
    → (symbol_in s t).table.next ≡ s.next + 1
next-symbol_given s t other is =
    let i = interned bytes_eq s t in
    ap (λ p. (symbol_at p s t).table.next) other ∙ next-given bytes_eq s t is

pub next-symbol_stored : (s : State (List ℕ)) (t : List ℕ) (b : ℕ) → birth_of bytes_eq s t ≡ Some b
    → (symbol_in s t).table.next ≡ s.next
next-symbol_stored s t b is = grind arith

pub next-at_entry : (change : State (List ℕ) → ℕ → State (List ℕ)) → ((s : State (List ℕ)) (b : ℕ) → (change s b).next ≡ s.next)
    → (s : State (List ℕ)) (a : Named) → (at_entry change s a).next ≡ s.next
next-at_entry change stays s (preset place) = refl
next-at_entry change stays s (entry n) = stays s n.birth
