use Rattle.std.proofs.Common.{◌≡◌, ◌≢◌, ◌==◌, ℕ, ◌+◌, ◌<◌, ◌^◌, Bool, true, false, if◌then◌else◌, Option, Some, None, IfSome, IfNone, refl, ap, sym, subst, ◌∙◌}
use Rattle.std.specs.Option.{option_map, option_map_or}
use Rattle.std.proofs.lemmas.Bool.{eq-eqb, eqb-true}
use Rattle.slab.specs.Slab.{Slab, get}
use Rattle.intern_buckets.specs.Leading.{leads}
use Rattle.intern_buckets.specs.Mixed.{mixed}
use Rattle.intern_index.specs.Entries.{birth_at, passes_at, AreTold}
use Rattle.intern_index.specs.Row.{row_key}
use Rattle.intern_index.specs.declared.entry.Entry.{Entry}
use Rattle.intern_index.proofs.Held.{entry_there}
use Rattle.intern_index.proofs.birth_table.BirthTableBirths.find.Goals as goal

module _ {T N : Type 0} (s : Slab (Entry T N)) (b : ℕ) where
  abbrev has_birth : Entry T N → Bool
  has_birth e = e.birth == b

  -- a place that passes has the birth
  found_of : (o : Option (Entry T N)) → option_map_or has_birth o false ≡ true → option_map (λ (e : Entry T N). e.birth) o ≡ Some b
  found_of None passes = absurd (cc)
  found_of (Some e) passes = ap Some (eqb-true e.birth b passes)

  found : (r : Option ℕ) → IfSome r (λ p. passes_at has_birth s p ≡ true) → IfSome r (λ p. birth_at s p ≡ Some b)
  found None passes = tt
  found (Some p) passes = found_of (get s p) passes

  -- where no place that is led to has the birth, none has it
  absent : (led : ℕ → Bool) (r : Option ℕ) → IfNone r ((p : ℕ) → p + 1 < 2 ^ 48 → led p ≡ true → passes_at has_birth s p ≡ false)
      → ((p : ℕ) → birth_at s p ≡ Some b → led p ≡ true) → AreTold s → IfNone r ((p : ℕ) → birth_at s p ≢ Some b)
  absent led (Some p) none known told = tt
  absent led None none known told = λ p is.
      let w = entry_there s p b is in
      let other = sym (ap (λ o. option_map_or has_birth o false) w.1) ∙ none p (told p b is) (known p is) in
      let same = eq-eqb w.0.birth b w.2 in
      absurd (cc)

  -- a birth at a place that isn't in row is entered
  known_led : (shift : ℕ) (led : ℕ → ℕ → Bool) → ((p q : ℕ) → birth_at s p ≡ Some q → IfSome (row_key shift p q) (λ h. led h p ≡ true)) → ((p : ℕ) → p + shift ≡ b → birth_at s p ≢ Some b)
      → (p : ℕ) → birth_at s p ≡ Some b → led (mixed b) p ≡ true
  known_led shift led known absent p is = go (p + shift == b) refl
    where
      go : (t : Bool) → (p + shift == b) ≡ t → led (mixed b) p ≡ true
      go true t = absurd (absent p (eqb-true (p + shift) b t) is)
      go false t = subst (λ t. IfSome (if t then None else Some (mixed b)) (λ h. led h p ≡ true)) t (known p b is)

pub returns-in-None-clause-found : goal.returns-in-None-clause-found
returns-in-None-clause-found g c = found c.args.slots.now c.args.birth _ c.search.ensures.found

pub returns-in-None-clause-absent : goal.returns-in-None-clause-absent
returns-in-None-clause-absent g c =
    let led = leads c.args.self.now.others.buckets in
    absent c.args.slots.now c.args.birth (led (mixed c.args.birth)) _ (rw (sym c.mix.ensures) c.search.ensures.none)
    (known_led c.args.slots.now c.args.birth c.args.self.now.row.shift led c.requires.known c.in-None.ensures.absent) c.requires.told
