-- What a later state of a storage has of an earlier one.
use Rattle.std.proofs.Common.{◌≡◌, ℕ, ◌+◌, ◌-◌, ◌<◌, ◌≤◌, Bool, true, false, cond, Option, Some, None, ◌⊎◌, inl, inr, refl, ◌∙◌, arith}
use Rattle.std.specs.Option.{option_map}
use Rattle.std.proofs.lemmas.Bool.Decides.{nat_tests}
use Rattle.intern_store.specs.Kept.{recount}
use Rattle.intern_store.specs.State.{State, IsGone, entry_at, reads, with_count, counted_up, counted_down, added, birth_of, or_added, interned, taken, is_last, released, kept}
use Rattle.intern_store.specs.declared.names.Name.{Name}
use Rattle.intern_store.proofs.Compared.{get-inserted, get-removed, get-retained, get-modified}

module _ {V : Type 0} where
  -- the value of the entry of a birth
  abbrev pub value_at : State V → ℕ → Option V
  value_at s b = option_map (λ k. k.value) (entry_at s b)

  pub neither : (t : Bool) → ◌≡◌ {A = Option V} (cond t None None) None
  neither true = refl
  neither false = refl

  -- a count changes no value
  pub recounted_value : (f : ℕ → ℕ) (s : State V) (b c : ℕ) → value_at (with_count f s b (entry_at s b)) c ≡ value_at s c
  recounted_value f s b c = grind (arith, get-modified (recount f) s.map b c)

  -- what a later state of a storage has of an earlier one
  pub record Later (s t : State V) : Type 0 where
    pub number : t.number ≡ s.number
    pub births : s.next ≤ t.next
    pub values : (b : ℕ) → b < s.next → (value_at t b ≡ value_at s b) ⊎ (value_at t b ≡ None)

  pub later_itself : (s : State V) → Later s s
  later_itself s = record { number = refl; births = omega arith; values = λ b h. inl refl }

  pub later_later : (s t u : State V) → Later s t → Later t u → Later s u
  later_later s t u p q = record {
    number = q.number ∙ p.number;
    births = let a = p.births in let b = q.births in omega arith;
    values = λ b h.
        let k = p.births in
        let lt : b < t.next = omega arith in
        elim (q.values b lt) [
          | inr none ↦ inr none
          | inl is ↦ elim (p.values b h) [
            | inl first ↦ inl (is ∙ first)
            | inr none ↦ inr (is ∙ none)
          ]
        ];
  }

  recounted_later : (f : ℕ → ℕ) (s : State V) (c : ℕ) → Later s (with_count f s c (entry_at s c))
  recounted_later f s c = record {
    number = refl;
    births = omega arith;
    values = λ b h. inl (recounted_value f s c b);
  }

  pub counted_up_later : (s : State V) (c : ℕ) → Later s (counted_up s c)
  counted_up_later s c = recounted_later (λ n. n + 1) s c

  pub counted_down_later : (s : State V) (c : ℕ) → Later s (counted_down s c)
  counted_down_later s c = recounted_later (λ n. n - 1) s c

  taken_later : (s : State V) (c : ℕ) → Later s (taken s c)
  taken_later s c = record {
    number = refl;
    births = omega arith;
    values = λ b h. grind (arith, get-removed s.map c b);
  }

  pub kept_later : (s : State V) (marked : ℕ → Bool) → Later s (kept s marked)
  kept_later s marked = record {
    number = refl;
    births = omega arith;
    values = λ b h. grind (arith, get-retained s.map marked b);
  }

  added_later : (s : State V) (v : V) → Later s (added s v)
  added_later s v = record {
    number = refl;
    births = omega arith;
    values = λ b h. inl (grind (arith, nat_tests, get-inserted));
  }

  pub interned_later : (eq : V → V → Bool) (s : State V) (v : V) → Later s (interned eq s v).state
  interned_later eq s v = go (birth_of eq s v)
    where
      go : (o : Option ℕ) → Later s (or_added o s v).state
      go (Some b) = later_itself s
      go None = added_later s v

  pub released_later : (stays : Bool) (s : State V) (c : ℕ) → Later s (released stays s c)
  released_later stays s c = go (is_last stays s c)
    where
      go : (t : Bool) → Later s (cond t (taken s c) (counted_down s c))
      go true = taken_later s c
      go false = counted_down_later s c

  pub interned_counted_later : (eq : V → V → Bool) (s : State V) (v : V)
      → Later s (counted_up (interned eq s v).state (interned eq s v).birth)
  interned_counted_later eq s v =
      later_later s (interned eq s v).state _ (interned_later eq s v)
      (counted_up_later (interned eq s v).state (interned eq s v).birth)

  -- what a name whose birth was given reads later is what it read, or nothing
  pub reads_later : (s t : State V) → Later s t → (name : Name) → name.birth < s.next
      → (reads t name ≡ reads s name) ⊎ (reads t name ≡ None)
  reads_later s t later name given =
      let value = later.values name.birth given in let number = later.number in grind arith

  -- what is gone stays gone
  pub gone_later : (s t : State V) → Later s t → (b : ℕ) → IsGone s b → IsGone t b
  gone_later s t later b gone = record {
    given = let below = gone.given in let more = later.births in omega arith;
    none = let value = later.values b gone.given in grind arith;
  }
