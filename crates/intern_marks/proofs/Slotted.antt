-- What is in slots, and what a change of them does to it.
use Rattle.std.proofs.Common.{◌≡◌, ◌≢◌, ℕ, zero, suc, ◌+◌, ◌<◌, ◌≤◌, nat_eq, Bool, false, cond, List, [], ◌∷◌, ◌++◌, length, get_or, set, replicate, Option, Some, None, refl, ap, ◌∙◌, arith, add-zero, add-suc, add-one}
use Rattle.std.proofs.lemmas.Bool.Decides.{nat_tests}
use Rattle.std.proofs.lemmas.Grind.{common_steps}
use Rattle.std.proofs.lemmas.List.{get_or-set_same, get_or-set_other, get_or_past}
use Rattle.std.specs.Option.{option_map}
use Rattle.std.specs.FinMap.{FinMap, get, insert, get-empty}
use Rattle.intern_store.specs.declared.names.Name.{Name}
use Rattle.intern_marks.specs.Names.{name_cmp}
use Rattle.intern_marks.specs.Parts.{part_at, row_name, row_at, Follow, extended}
use Rattle.intern_marks.specs.Slotted.{slot_count, flags_at, registered, registered_at, birth_in, with_mark, AreApart, IsNext, with_slot, names_below}
use Rattle.intern_marks.specs.declared.flags.Registered.{Registered}
use Rattle.intern_marks.specs.declared.flags.Flags.{Flags}
use Rattle.intern_marks.specs.declared.part.Part.{Part}
use Rattle.intern_marks.specs.declared.slots.Slots.{Slots}
use Rattle.intern_marks.proofs.Parted.{extended_follow, extended_at, extended_before}
use Rattle.intern_store.proofs.Named.{names_same}
use Rattle.intern_marks.proofs.Names.{same_as_itself, get-inserted}

-- ---- names of slots

-- what the slots below n add, slot by slot
pub names_same_below : (at bt : ℕ → Option Registered) (n : ℕ) → ((j : ℕ) → j < n → (m : FinMap name_cmp Bool) → with_slot (at j) m ≡ with_slot (bt j) m)
    → names_below at n ≡ names_below bt n
unfolding names_below
names_same_below at bt zero same = refl
names_same_below at bt (suc n) same =
    same n (omega arith) (names_below at n) ∙ ap (with_slot (bt n)) (names_same_below at bt n (λ j below. same j (omega arith)))

-- vacant slots add nothing
pub names_gap : (at : ℕ → Option Registered) (n k : ℕ) → ((j : ℕ) → n ≤ j → at j ≡ None) → names_below at (n + k) ≡ names_below at n
unfolding names_below
names_gap at n zero vacant = ap (names_below at) (add-zero n)
names_gap at n (suc k) vacant =
    ap (names_below at) (add-suc n k) ∙ ap (λ o. with_slot o (names_below at (n + k))) (vacant (n + k) (omega arith)) ∙ names_gap at n k vacant

pub names_push : (at : ℕ → Option Registered) (n : ℕ) (r : Registered) → at n ≡ Some r → names_below at (n + 1) ≡ insert (names_below at n) r.name r.flags.is_counted
unfolding names_below
names_push at n r is = ap (names_below at) (add-one n) ∙ ap (λ o. with_slot o (names_below at n)) is

-- the name in a slot is known as its flags tell
pub names_there : (at : ℕ → Option Registered) → AreApart at → (n i : ℕ) (r : Registered) → i < n → at i ≡ Some r → get (names_below at n) r.name ≡ Some r.flags.is_counted
unfolding names_below
names_there at apart zero i r below is = absurd (omega arith)
names_there at apart (suc n) i r below is =
    let rest = names_there at apart n i r in let other = apart i n r in grind (arith, nat_tests, rest, other, get-inserted, same_as_itself, names_same)

pub names_nowhere : (at : ℕ → Option Registered) (n : ℕ) (x : Name) → ((i : ℕ) (r : Registered) → at i ≡ Some r → x ≡ r.name → ⊥) → get (names_below at n) x ≡ None
unfolding names_below
names_nowhere at zero x none = get-empty name_cmp x
names_nowhere at (suc n) x none = let rest = names_nowhere at n x none in grind (arith, rest, none n, get-inserted, names_same)

-- ---- slots

-- what is registered has a part
pub part_of_name : (row : Bool) (i : ℕ) (p : Option Part) (b : ℕ) (o : Option Flags) (r : Registered) → registered row (option_map (row_name i) p) b o ≡ Some r → (q : Part) × (p ≡ Some q)
part_of_name row i p b o r is = grind arith

-- a part and a birth tell the name that is registered with flags
pub told_at : (s : Slots) (p : Part) (i : ℕ) (x : Name) (f : Flags) → part_at s.parts.items i ≡ Some p → p.number ≡ x.storage → birth_in s p i ≡ x.birth
    → flags_at s i ≡ Some f → registered_at s i ≡ Some (record { name = x; flags = f })
told_at s p i x f here number birth flags = grind arith

pub at_past : (s : Slots) (i : ℕ) → slot_count s ≤ i → registered_at s i ≡ None
at_past s i past = grind (arith, get_or_past)

pub at_below : (s : Slots) (i : ℕ) (r : Registered) → registered_at s i ≡ Some r → i < slot_count s
at_below s i r is = grind (arith, at_past)

-- one slot has something else
abbrev pub IsWritten : (ℕ → Option Registered) → (ℕ → Option Registered) → ℕ → Registered → Type 0
IsWritten at bt i r = (j : ℕ) → bt j ≡ cond (nat_eq j i) (Some r) (at j)

module _ (at bt : ℕ → Option Registered) (i : ℕ) (r : Registered) (write : IsWritten at bt i r) where
  pub written_here : bt i ≡ Some r
  written_here = grind (arith, nat_tests)

  pub written_else : (j : ℕ) → j ≢ i → bt j ≡ at j
  written_else j other = grind (arith, nat_tests)

  -- slots stay apart where the name is new
  pub written_apart : AreApart at → ((j : ℕ) (q : Registered) → j ≢ i → at j ≡ Some q → r.name ≡ q.name → ⊥) → AreApart bt
  written_apart apart other j k q p one two same = grind (arith, nat_tests)

  -- where the slot had the same name and is counted the same, so is what slots add
  module _ (p : Registered) (was : at i ≡ Some p) (same : p.name ≡ r.name) where
    pub written_name : (j : ℕ) → option_map (λ (r : Registered). r.name) (bt j) ≡ option_map (λ (r : Registered). r.name) (at j)
    written_name j = grind (arith, nat_tests)

    pub written_adds : p.flags.is_counted ≡ r.flags.is_counted → (j : ℕ) (m : FinMap name_cmp Bool) → with_slot (bt j) m ≡ with_slot (at j) m
    written_adds counted j m = grind (arith, nat_tests)

-- a mark in a slot
pub mark_written : (s next : Slots) (i : ℕ) (r : Registered) → registered_at s i ≡ Some r → next.parts.items ≡ s.parts.items → next.in_row ≡ s.in_row → next.births.items ≡ s.births.items
    → next.flags.items ≡ set s.flags.items i (Some (with_mark r.flags)) → IsWritten (registered_at s) (registered_at next) i (record r { flags = with_mark r.flags })
mark_written s next i r is parts row births flags j = grind (arith, nat_tests, get_or-set_same, get_or-set_other, at_below)

-- an element behind others, with a gap between that is filled with something else
pub put_at : {A : Type 0} (xs : List A) (gap : ℕ) (y d : A) (i n : ℕ) → length xs + gap ≡ n → get_or (xs ++ (replicate gap d ++ y ∷ [])) i d ≡ cond (nat_eq i n) y (get_or xs i d)
put_at xs gap y d i n is = grind (arith, nat_tests, common_steps)

-- a slot that is filled behind all others: its part goes on
pub next_follow : (s : Slots) (x : Name) (i : ℕ) (more : List Part) → IsNext s x i → slot_count s ≤ i → Follow 0 s.parts.items (slot_count s) → more ≡ extended s.parts.items (i + 1) → Follow 0 more (i + 1)
next_follow s x i more next behind follow is = rw is (extended_follow s.parts.items 0 (slot_count s) (i + 1) next.0 follow next.1 (omega arith))

pub put_written : (s : Slots) (more : List Part) (births : List ℕ) (flags : List (Option Flags)) (slot g : ℕ) (x : Name) (f : Flags) → length s.flags.items + g ≡ slot
    → Follow 0 s.parts.items (slot_count s) → IsNext s x slot
    → more ≡ extended s.parts.items (slot + 1)
    → (s.in_row ≡ false → (i : ℕ) → get_or births i 0 ≡ cond (nat_eq i slot) x.birth (get_or s.births.items i 0))
    → flags ≡ s.flags.items ++ (replicate g None ++ Some f ∷ [])
    → IsWritten (registered_at s) (λ i. registered s.in_row (row_at more i) (get_or births i 0) (get_or flags i None)) slot (record { name = x; flags = f })
put_written s more births flags slot g x f reach follow next is_more is_births is_flags i =
    let o = put_at s.flags.items g (Some f) None i slot reach in
    let before = extended_before s.parts.items 0 (slot_count s) (slot + 1) i follow in
    let here = extended_at s.parts.items 0 (slot_count s) (slot + 1) i next.0 follow next.1 in
    let vacant = get_or_past s.flags.items i None in
    grind (arith, nat_tests, o, before, here, vacant, is_births)
