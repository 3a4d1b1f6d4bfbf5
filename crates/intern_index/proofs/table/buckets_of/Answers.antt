use Rattle.std.proofs.Common.{◌≡◌, true, Option, Some, None, IfSome, inl, inr, refl, ap, sym, subst, ◌∙◌, length, arith}
use Rattle.std.proofs.lemmas.Option.{IfSome_then}
use Rattle.slab.proofs.SlabLemmas.{Contains-cons, Contains-cons_cases, Contains-entries, length-entries}
use Rattle.intern_buckets.specs.Leading.{leads}
use Rattle.intern_index.proofs.Held.{told_there}
use Rattle.intern_index.proofs.table.buckets_of.Goals as goal

-- what holds of the value, if there is one, by what is known of it
some_holds : {X : Type 0} (o : Option X) (x : X) (P : X → Type 0) → o ≡ Some x → P x → IfSome o P
some_holds o x P is holds = subst (λ r. IfSome r P) (sym is) holds

none_holds : {X : Type 0} (o : Option X) (P : X → Type 0) → o ≡ None → IfSome o P
none_holds o P is = subst (λ r. IfSome r P) (sym is) tt

pub loop-place-init : goal.loop-place-init
loop-place-init g c =
    let all = c.into_iter-place-iterator.ensures.into_iter_gives ∙ c.iter-place-items.ensures.rest in record {
      left = λ p e is. (Contains-entries c.args.slots.now p e).0 (rw all at is);
      keyed = λ p e there. inr (rw all ((Contains-entries c.args.slots.now p e).1 there));
      once = let count = ap length all in omega (arith, length-entries c.args.slots.now, c.in_ok-buckets.ensures.empty);
      homes = c.in_ok-buckets.ensures.homes;
    }

pub enter-requires-clause-small : goal.enter-requires-clause-small
enter-requires-clause-small g c =
    let there = c.loop-place.invariant.left c.in-Some.place c.in-Some.entry.now (rw c.in-Some.ensures.steps (0, omega arith, refl)) in
    told_there c.args.slots.now c.requires c.in-Some.place c.in-Some.entry.now there

pub loop-place-preserved-in-Some-key : goal.loop-place-preserved-in-Some-key
loop-place-preserved-in-Some-key g c =
    let key = g.K.Key.key c.args.by.now in
    let next = c.in-Some.ensures.steps in
    let before = c.loop-place.invariant in
    let room = c.reserve.ensures in
    let entered = c.enter.ensures in
    record {
      left = λ p e is. before.left p e (rw next (Contains-cons _ _ _ is));
      keyed = λ p e there.
          elim (before.keyed p e there) [
            | inl led ↦ inl (IfSome_then (key p e) led (λ h was. entered.still h p (room.led h p ∙ was)))
            | inr is ↦
                elim (Contains-cons_cases _ _ _ (rw next at is)) [
                  | inl here ↦ inl (subst (λ x. IfSome (key x.0 x.1) (λ h. leads c.enter.new.self h x.0 ≡ true)) here (some_holds _ _ (λ h. leads c.enter.new.self h c.in-Some.place ≡ true) (sym c.key.ensures ∙ c.in-Some-key.is) entered.entered))
                  | inr rest ↦ inr rest
                ]
          ];
      once =
          let one = ap length next in
          omega (arith, room.full, entered.full, before.once);
      homes = entered.homes ∙ room.homes ∙ before.homes;
    }

pub loop-place-preserved : goal.loop-place-preserved
loop-place-preserved g c =
    let key = g.K.Key.key c.args.by.now in
    let next = c.in-Some.ensures.steps in
    let before = c.loop-place.invariant in
    record {
      left = λ p e is. before.left p e (rw next (Contains-cons _ _ _ is));
      keyed = λ p e there.
          elim (before.keyed p e there) [
            | inl led ↦ inl led
            | inr is ↦
                elim (Contains-cons_cases _ _ _ (rw next at is)) [
                  | inl here ↦ inl (subst (λ x. IfSome (key x.0 x.1) (λ h. leads c.loop-place.buckets h x.0 ≡ true)) here (none_holds _ (λ h. leads c.loop-place.buckets h c.in-Some.place ≡ true) (sym c.key.ensures ∙ c.in_default.is)))
                  | inr rest ↦ inr rest
                ]
          ];
      once =
          let one = ap length next in
          omega (arith, before.once);
      homes = before.homes;
    }

pub returns-clause-keyed : goal.returns-clause-keyed
returns-clause-keyed g c = λ p e there.
    elim (c.loop-place.invariant.keyed p e there) [
      | inl led ↦ led
      | inr is ↦ let none = ap length c.in-None.ensures.steps.0 in absurd (omega (arith, is.1))
    ]
