-- What a table has once a head is counted, and given up again.
use Rattle.std.proofs.Common.{◌≡◌, ℕ, ◌+◌, ◌-◌, Bool, true, false, cond, List, Option, Some, None, is_none, Result, nat_eq, refl, sym, ap, subst, ◌∙◌, arith}
use Rattle.std.specs.Cmp.{nat_cmp_total}
use Rattle.std.specs.FinMap.{get, insert, same_map, nat_cmp-IsAntisymmetric}
use Rattle.std.specs.Option.{option_map, option_or}
use Rattle.std.proofs.lemmas.Bool.{eq-eqb, eqb-true}
use Rattle.ra_ap_intern.specs.Kept.{Kept}
use Rattle.ra_ap_intern.specs.Outcome.{Becomes, MayWant}
use Rattle.ra_ap_intern.specs.Refusal.{Refusal}
use Rattle.ra_ap_intern.specs.Refusal.TheVariants.{Foreign}
use Rattle.ra_ap_intern.specs.State.{State, counted_up, counted_down, due_at, any_count, entry_at, full, released, taken, with_count}
use Rattle.ra_ap_intern.specs.Symbols.{IsTable, Named, at_entry, due_of, given_up}
use Rattle.ra_ap_intern.specs.Symbols.Named.{preset, entry}
use Rattle.ra_ap_intern.proofs.CallerLemmas.{get-inserted, is_there, not_last}

module _ {V : Type 0} (s : State V) (b : ℕ) (kept : Kept V) (at : entry_at s b ≡ Some kept) where
  abbrev raised : Kept V
  raised = record kept { count = kept.count + 1 }

  -- a count that is raised
  at_raised : entry_at (counted_up s b) b ≡ Some raised
  at_raised =
      ap (λ o. entry_at (with_count (λ n. n + 1) s b o) b) at ∙ get-inserted s.map b raised b
      ∙ ap (λ t. cond t (Some raised) (entry_at s b)) (eq-eqb b b refl)

  -- and lowered is as it was
  lowered : counted_down (counted_up s b) b ≡ s
  lowered =
      ap (with_count (λ n. n - 1) (counted_up s b) b) at_raised
      ∙ ap (λ o. record s {
        map = insert (with_count (λ n. n + 1) s b o).map b (record kept { count = raised.count - 1 });
      }) at
      ∙ ap (λ n. record s { map = insert (insert s.map b raised) b (record kept { count = n }) }) same
      ∙ ap (λ m. record s { map = m }) (same_map nat_cmp_total nat_cmp-IsAntisymmetric _ _ (λ q.
      get-inserted (insert s.map b raised) b kept q
      ∙ ap (cond (nat_eq q b) (Some kept)) (get-inserted s.map b raised q)
      ∙ go q (nat_eq q b) refl))
    where
      same : kept.count + 1 - 1 ≡ kept.count
      same = omega arith

      go : (q : ℕ) (t : Bool) → nat_eq q b ≡ t
          → cond t (Some kept) (cond t (Some raised) (get s.map q)) ≡ get s.map q
      go q true here = sym (ap (get s.map) (eqb-true q b here) ∙ at)
      go q false other = refl

-- so is a table in which a symbol is counted, and given up
given_back_up : (s : State (List ℕ)) (name : Named) → IsTable s → due_of s name (full s.top) ≡ None
    → given_up (at_entry counted_up s name) name ≡ s
given_back_up s (preset place) ok free = refl
given_back_up s (entry name) ok free =
    let b = name.birth in
    let up = counted_up s b in
    let there = is_there s name (full s.top) free in
    let at = at_raised s b there.kept there.at in
    let some = ok.positive b there.kept there.at in
    let more =
    not_last false up b (there.kept.count + 1) (ap (option_map (λ k. k.count)) at) (omega arith) in
    ap (λ t. cond (is_none (cond t (due_at (entry_at up b) any_count) (Some Foreign)))
    (released false up b) up) (eq-eqb name.storage s.number there.home)
    ∙ ap (λ o. cond (is_none (due_at o any_count)) (released false up b) up) at
    ∙ ap (λ t. cond t (taken up b) (counted_down up b)) more ∙ lowered s b there.kept there.at

-- a refusal that nothing is due of adds nothing to what comes later
pub passed_head : {A : Type 0} (r : Result A Refusal) (first later : Option Refusal) (needs : Bool)
    → first ≡ None → MayWant r later needs → MayWant r (option_or first later) needs
passed_head r first later needs none is =
    subst (λ o. MayWant r (option_or o later) needs) (sym none) is

-- the table of a call that counted a head, and gave it up where it wasn't needed
pub counted_head : {A E : Type 0} (r : Result A E) (is_new : Bool) (s up t : State (List ℕ))
    (head : Named) → IsTable s → due_of s head (full s.top) ≡ None
    → up ≡ at_entry counted_up s head
    → Becomes r (given_up up head) t (cond is_new up (given_up up head))
    → Becomes r s t (cond is_new (at_entry counted_up s head) s)
counted_head r is_new s up t head ok free is becomes =
    let next = at_entry counted_up s head in
    subst (λ old. Becomes r old t (cond is_new next old)) (given_back_up s head ok free)
    (subst (λ u. Becomes r (given_up u head) t (cond is_new u (given_up u head))) is becomes)
