-- A collection leaves each counted entry.
use Rattle.std.proofs.Common.{◌≡◌, ◌+◌, inl, inr, Bool, true, false, not, ◌==◌, ◌&&◌, ◌||◌, List, [], ◌∷◌, ◌++◌, Option, Some, None, refl, sym, ap, ◌∙◌, arith}
use Rattle.std.specs.Option.{option_or}
use Rattle.std.proofs.lemmas.Bool.{and_parts, eq-eqb, eqb-true}
use Rattle.ra_ap_intern.proofs.CallerLemmas.{is_there, due_counted, counted_first, counted_starts, seen_elsewhere, times_kept}
use Rattle.ra_ap_intern.specs.Names.{has}
use Rattle.ra_ap_intern.specs.Families.{has_number}
use Rattle.ra_ap_intern.specs.Name.{Name}
use Rattle.ra_ap_intern.specs.PairLaws.{entry_either}
use Rattle.ra_ap_intern.specs.Reach.{Entry, entry_of, is_entry, counted_entry, starts, starts_with, IsReachedSet}
use Rattle.ra_ap_intern.specs.State.{zero_count}
use Rattle.intern_calls.specs.Step.{Keeps}
use Rattle.intern_calls.specs.World.{Kinds, WorldState, entries, swept}
use Rattle.intern_calls.specs.declared.call.Which.{Which}
use Rattle.intern_calls.specs.declared.call.Which.TheVariants as which
use Rattle.intern_calls.specs.declared.reply.Reply.{Reply}
use Rattle.intern_world.specs.Ledger.{count_in_part}
use Rattle.intern_world.specs.Run.{IsWorld}

-- a counted entry of the second list, whose name has none in the first
in_second : (xs ys : List Entry) (n : Name) → entry_of xs n ≡ None → starts ys n ≡ true
    → starts (xs ++ ys) n ≡ true
in_second xs ys n none counted =
    ap counted_entry (entry_either xs ys n ∙ ap (λ o. option_or o (entry_of ys n)) none) ∙ counted

module _ {C G H I : Type 0} where
  pub swept_counts : (kinds : Kinds C G H I) (w : WorldState C G H I) (begins : Name → Bool)
      (names : List Name) → IsWorld kinds w
      → ((m : Name) → starts (entries kinds w) m ≡ true → begins m ≡ true)
      → IsReachedSet begins (entries kinds w) names
      → (part : Which) (n : Name) → count_in_part (swept w names) part n ≡ count_in_part w part n
  swept_counts kinds w begins names ok all set part n = go part
    where
      listed : starts (entries kinds w) n ≡ true → has names n ≡ true
      listed is = (set.reached n).1 ([], all n is)

      foreign : n.storage ≡ w.slices.number → (t : Bool) → (n.storage == w.values.number) ≡ t
          → t ≡ false
      foreign home false is = refl
      foreign home true is =
          let same : w.values.number ≡ w.slices.number =
          sym (eqb-true n.storage w.values.number is) ∙ home in
          let test = eq-eqb w.values.number w.slices.number same in
          let apart = (and_parts _ _ (and_parts _ _ ok.distinct).1).0 in
          sym apart
          ∙ ap (λ t. not (t || has_number (w.table.number ∷ []) w.values.number)) test

      go : (p : Which) → count_in_part (swept w names) p n ≡ count_in_part w p n
      go which.Counted = refl
      go which.Values = times_kept w.values (has names) n
          (λ c at. listed (counted_first _ _ n
          (counted_starts kinds.value_children w.values n (c + 1) at (omega arith))))
      go which.Slices = times_kept w.slices (has names) n
          (λ c at. let there = is_there w.slices n zero_count (due_counted w.slices n c at) in
          listed (in_second _ _ n
          (seen_elsewhere kinds.value_children w.values n (foreign there.home _ refl))
          (counted_starts kinds.slice_children w.slices n (c + 1) at (omega arith))))
      go which.Symbols = refl

  -- also one that begins at further entries
  pub keeping_counts : (kinds : Kinds C G H I) (w : WorldState C G H I)
      (roots : Option (List Name)) (r : Reply C G H) (x : WorldState C G H I) → IsWorld kinds w
      → Keeps kinds w roots r x
      → (part : Which) (n : Name) → count_in_part x part n ≡ count_in_part w part n
  keeping_counts kinds w None r x ok says part n =
      ap (λ (y : WorldState C G H I). count_in_part y part n) says.after_is
  keeping_counts kinds w (Some roots) r x ok (inl g) part n =
      let family = entries kinds w in
      ap (λ (y : WorldState C G H I). count_in_part y part n) g.says.after_is
      ∙ swept_counts kinds w (starts_with roots family) g.names ok
      (λ m is. ap (λ b. b || (is_entry family m && has roots m)) is) g.reached part n
  keeping_counts kinds w (Some roots) r x ok (inr l) part n =
      ap (λ (y : WorldState C G H I). count_in_part y part n) l.after_is
