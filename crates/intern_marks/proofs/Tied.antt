-- What ties a collector's fields together, and what its calls do to that.
use Rattle.std.proofs.Common.{◌≡◌, ◌≢◌, ℕ, ◌+◌, ◌-◌, ◌<◌, ◌≤◌, ◌^◌, Bool, false, not, cond, ◌&&◌, ◌||◌, List, [], ◌∷◌, ◌++◌, length, Some, None, is_some, refl, sym, ap, ◌∙◌, subst, arith, length-append}
use Rattle.std.proofs.lemmas.Bool.Decides.{nat_tests}
use Rattle.std.specs.Option.{option_map}
use Rattle.std.specs.FinMap.{FinMap, get, insert, empty, len, len-empty, len-insert}
use Rattle.std.proofs.lemmas.Bool.{false≢true}
use Rattle.intern_store.specs.declared.names.Name.{Name}
use Rattle.intern_marks.specs.Names.{has, name_cmp}
use Rattle.intern_marks.specs.Marks.{Marks, may_be, is_next, placed, IsSound}
use Rattle.intern_marks.specs.Parts.{Follow}
use Rattle.intern_marks.specs.Slotted.{slot_count, registered_at, with_mark, IsAt, with_slot, names_below, names_in}
use Rattle.intern_marks.specs.declared.flags.Registered.{Registered}
use Rattle.intern_marks.specs.Tied.{IsNowhere, IsLed, IsTied}
use Rattle.intern_marks.specs.declared.flags.Flags.{Flags}
use Rattle.intern_marks.specs.declared.found.Table.{Table}
use Rattle.intern_marks.specs.declared.slots.Slots.{Slots}
use Rattle.intern_store.proofs.Named.{names_same}
use Rattle.intern_marks.proofs.Names.{name_cmp_total, same_as_itself}
use Rattle.intern_marks.proofs.Sound.{nothing_sound, unmarked, sound_more, sound_added, fewer as few}
use Rattle.intern_marks.proofs.Steps.{grown_has, listed_front}
use Rattle.intern_marks.proofs.Slotted.{names_same_below, names_there, names_nowhere, names_gap, names_push, IsWritten, at_below, at_past, written_here, written_else, written_apart, written_name, written_adds}

pub nothing_names : (s : Slots) → slot_count s ≡ 0 → names_in s ≡ empty
unfolding names_below
nothing_names s none = ap (names_below (registered_at s)) none

-- a table that isn't filled leads nowhere
pub unfilled : (s : Slots) (t : Table) → t.is_filled ≡ false → IsLed s t
unfilled s t not_yet filled = absurd (false≢true (sym not_yet ∙ filled))

-- nothing is registered
pub nothing_tied : (s : Slots) (t : Table) (marked : List Name) (capacity : ℕ) → slot_count s ≡ 0 → s.parts.items ≡ [] → t.is_filled ≡ false → marked ≡ [] → IsTied s t 0 marked 0 capacity
nothing_tied s t marked capacity none parts empty_table unmarked = record {
  follow = rw parts (sym none);
  apart = λ i j q r one two same. let below = at_below s i q one in absurd (omega arith);
  led = unfilled s t empty_table;
  told = omega arith;
  sized = sym (ap len (nothing_names s none) ∙ len-empty name_cmp Bool);
  flagged = λ i x f at. let below = at_below s i _ at in absurd (omega arith);
  sound = rw (unmarked, nothing_names s none) nothing_sound;
  within = omega arith;
  room = omega arith;
}

-- what is seen
abbrev pub seen : FinMap name_cmp Bool → List Name → ℕ → ℕ → Marks
seen registered marked visits calls = record { registered = registered; marked = marked; visits = visits; calls = calls }

-- a name that is placed, as it was decided
pub placed_as : (b : Bool) (m : Marks) (x : Name) (t : Bool) → is_next b m x ≡ t → record m { marked = cond t (m.marked ++ x ∷ []) m.marked } ≡ placed b m x
unfolding placed
placed_as b m x t is = ap (λ t. record m { marked = cond t (m.marked ++ x ∷ []) m.marked }) (sym is)

module _ {s : Slots} {t : Table} {size : ℕ} {marked : List Name} {visits capacity : ℕ} (tied : IsTied s t size marked visits capacity) where
  pub found_known : (i : ℕ) (x : Name) (f : Flags) → IsAt s i x f → get (names_in s) x ≡ Some f.is_counted
  found_known i x f at = names_there (registered_at s) tied.apart (slot_count s) i _ (at_below s i _ at) at

  pub nowhere_unknown : (x : Name) → IsNowhere s x → get (names_in s) x ≡ None
  nowhere_unknown x none =
      names_nowhere (registered_at s) (slot_count s) x (λ i r at same. none i r.flags (at ∙ λ k. Some (record { name = sym same k; flags = r.flags })))

  pub nowhere_unmarked : (x : Name) → IsNowhere s x → has marked x ≡ false
  nowhere_unmarked x none = unmarked (names_in s) marked tied.sound x (nowhere_unknown x none)

  pub fewer : length marked ≤ size
  fewer = omega (arith, few (names_in s) marked tied.sound, tied.sized)

  -- what is decided of a name
  pub next_found : (b : Bool) (calls : ℕ) (i : ℕ) (x : Name) (f : Flags) → IsAt s i x f
      → is_next b (seen (names_in s) marked visits calls) x ≡ ((b || not f.is_counted) && not f.is_marked)
  next_found b calls i x f at k = may_be b (found_known i x f at k) && not (tied.flagged i x f at k)

  pub next_nowhere : (b : Bool) (calls : ℕ) (x : Name) → IsNowhere s x
      → is_next b (seen (names_in s) marked visits calls) x ≡ false
  next_nowhere b calls x none = ap (λ o. may_be b o && not (has marked x)) (nowhere_unknown x none)

  -- a slot is written with a name that isn't marked, and that no other slot has
  module _ (next : Slots) (i : ℕ) (x : Name) (f : Flags) (written : IsWritten (registered_at s) (registered_at next) i (record { name = x; flags = f })) where
    abbrev pub grown : List Name
    grown = cond f.is_marked (marked ++ x ∷ []) marked

    pub written_tied : has marked x ≡ false → ((j : ℕ) (q : Registered) → j ≢ i → registered_at s j ≡ Some q → x ≡ q.name → ⊥) → (u : Table) (total more : ℕ)
        → Follow 0 next.parts.items (slot_count next) → IsLed next u → slot_count next < 2 ^ 48 → total ≡ len (names_in next) → IsSound (names_in next) grown → total ≤ more
        → IsTied next u total grown visits more
    written_tied new alone u total more follow led told sized sound room = record {
      follow = follow;
      apart = written_apart (registered_at s) (registered_at next) i _ written tied.apart alone;
      led = led;
      told = told;
      sized = sized;
      flagged = λ j y g at. let old = tied.flagged j y g in let apart = alone j in grind (arith, nat_tests, written j, old, apart, new, grown_has, same_as_itself, names_same);
      sound = sound;
      within = (listed_front f.is_marked marked x visits tied.within).0;
      room = room;
    }

  -- a name in a slot is marked that wasn't
  module _ (i : ℕ) (x : Name) (f : Flags) (here : IsAt s i x f) (bare : f.is_marked ≡ false) where
    new : has marked x ≡ false
    new = tied.flagged i x f here ∙ bare

    more_sound : IsSound (names_in s) (marked ++ x ∷ [])
    more_sound = sound_more (names_in s) marked tied.sound x (ap is_some (found_known i x f here)) new

    pub room_left : length marked < capacity
    room_left = omega (arith, few (names_in s) (marked ++ x ∷ []) more_sound, length-append marked (x ∷ []), tied.sized, tied.room)

    module _ (next : Slots) (written : IsWritten (registered_at s) (registered_at next) i (record { name = x; flags = with_mark f })) (count : slot_count next ≡ slot_count s) where
      pub names_kept : names_in next ≡ names_in s
      names_kept =
          ap (names_below (registered_at next)) count
          ∙ names_same_below (registered_at next) (registered_at s) (slot_count s) (λ j _. written_adds (registered_at s) (registered_at next) i _ written _ here refl refl j)

      pub marked_tied : (u : Table) → next.parts.items ≡ s.parts.items → IsLed s u → IsTied next u size (marked ++ x ∷ []) visits capacity
      marked_tied u parts led =
          written_tied next i x (with_mark f) written new (λ j q other at same. other (tied.apart j i q _ at here (sym same))) u size capacity (rw (parts, count) tied.follow)
          (λ filled j y at. led filled j y (sym (written_name (registered_at s) (registered_at next) i _ written _ here refl j) ∙ at))
          (rw count tied.told) (tied.sized ∙ ap len (sym names_kept)) (rw names_kept more_sound) tied.room

  -- slots that have the same in them
  module _ (next : Slots) (same : (i : ℕ) → registered_at next i ≡ registered_at s i) (count : slot_count next ≡ slot_count s) where
    pub same_names_in : names_in next ≡ names_in s
    same_names_in k = names_below (λ i. same i k) (count k)

    pub same_tied : Follow 0 next.parts.items (slot_count next) → (u : Table) → IsLed s u → IsTied next u size marked visits capacity
    same_tied follow u led = record {
      follow = follow;
      apart = λ i j q r one two. tied.apart i j q r (sym (same i) ∙ one) (sym (same j) ∙ two);
      led = λ filled i x at. led filled i x (ap (option_map (λ (r : Registered). r.name)) (sym (same i)) ∙ at);
      told = let told = tied.told in omega arith;
      sized = tied.sized ∙ ap len (sym same_names_in);
      flagged = λ i x f at. tied.flagged i x f (sym (same i) ∙ at);
      sound = subst (λ m. IsSound m marked) (sym same_names_in) tied.sound;
      within = tied.within;
      room = tied.room;
    }

  -- a name is added behind all slots
  module _ (i : ℕ) (x : Name) (f : Flags) (unknown : get (names_in s) x ≡ None) (behind : slot_count s ≤ i) (next : Slots)
      (written : IsWritten (registered_at s) (registered_at next) i (record { name = x; flags = f })) (count : slot_count next ≡ i + 1) where
    abbrev it : Registered
    it = record { name = x; flags = f }

    lower : names_below (registered_at next) i ≡ names_in s
    lower =
        names_same_below (registered_at next) (registered_at s) i
        (λ j below m. ap (λ o. with_slot o m) (written_else (registered_at s) (registered_at next) i it written j (λ is. absurd (omega arith))))
        ∙ ap (names_below (registered_at s)) (let n : i ≡ slot_count s + (i - slot_count s) = omega arith in n)
        ∙ names_gap (registered_at s) (slot_count s) (i - slot_count s) (at_past s)

    pub names_added : names_in next ≡ insert (names_in s) x f.is_counted
    names_added =
        ap (names_below (registered_at next)) count ∙ names_push (registered_at next) i it (written_here (registered_at s) (registered_at next) i it written)
        ∙ ap (λ m. insert m x f.is_counted) lower

    not_there : (j : ℕ) (r : Registered) → registered_at s j ≡ Some r → x ≡ r.name → ⊥
    not_there j r at same = let there = found_known j r.name r.flags at in grind (arith, there, unknown, same)

    pub added_tied : (u : Table) (more : ℕ) → IsLed next u → Follow 0 next.parts.items (i + 1) → i + 1 < 2 ^ 48 → size + 1 ≤ more → IsTied next u (size + 1) (grown next i x f written) visits more
    added_tied u more led follow small fits =
        written_tied next i x f written (unmarked (names_in s) marked tied.sound x unknown) (λ j q _. not_there j q) u (size + 1) more (rw count follow) led (rw count small)
        (ap (λ n. n + 1) tied.sized ∙ sym (ap len names_added ∙ len-insert name_cmp_total (names_in s) x f.is_counted ∙ ap (λ o. cond (is_some o) (len (names_in s)) (len (names_in s) + 1)) unknown))
        (rw names_added (sound_added (names_in s) marked x f.is_counted f.is_marked unknown tied.sound)) fits
