use Rattle.std.proofs.Common.{◌≡◌, true, false, not, ◌&&◌, ◌||◌, ◌∷◌, [], ◌++◌, Some, length, vec_capacity, sym, ap, ◌∙◌, arith}
use Rattle.std.proofs.lemmas.Bool.{and_parts, not-true}
use Rattle.std.proofs.lemmas.Option.{same_Some}
use Rattle.std.proofs.lemmas.List.{length-map, length-set}
use Rattle.intern_store.specs.Named.{key_name}
use Rattle.intern_marks.specs.Marks.{Marks, is_next}
use Rattle.intern_marks.specs.Slotted.{slot_count, registered_at, name_in, names_at, with_mark}
use Rattle.intern_marks.specs.declared.flags.Registered.{Registered}
use Rattle.intern_marks.proofs.Slotted.{IsWritten, mark_written}
use Rattle.intern_marks.proofs.Tied.{seen, placed_as, next_found, next_nowhere, room_left, names_kept, marked_tied}
use Rattle.intern_marks.proofs.Kept.{names_grown, kept_grown}
use Rattle.intern_marks.proofs.marks.Marks.place.Goals as goal
use Rattle.intern_marks.proofs.marks.Marks.place.Goals.{In_default, In-Some, After-push_reserved}

-- a name that isn't registered
nowhere : (c : In_default) → is_next c.args.counted_too c.args.self.now (key_name c.args.key) ≡ false
nowhere c =
    let a = c.self.inside in
    ap (λ (m : Marks). is_next c.args.counted_too m (key_name c.args.key)) (sym c.self.view_is)
    ∙ next_nowhere c.self.invariant.tied c.args.counted_too a.calls (key_name c.args.key) c.in_default.ensures.none

pub returns-in_default-clause-state : goal.returns-in_default-clause-state
returns-in_default-clause-state c = c.self.view_is ∙ placed_as c.args.counted_too c.args.self.now (key_name c.args.key) false (nowhere c)

pub returns-in_default-clause-answer : goal.returns-in_default-clause-answer
returns-in_default-clause-answer c = sym (nowhere c)

-- what is decided of a name that was found
decided : (c : In-Some) → is_next c.args.counted_too c.args.self.now (key_name c.args.key) ≡ ((c.args.counted_too || not c.in-Some.found.flags.is_counted) && not c.in-Some.found.flags.is_marked)
decided c =
    let a = c.self.inside in
    ap (λ (m : Marks). is_next c.args.counted_too m (key_name c.args.key)) (sym c.self.view_is)
    ∙ next_found c.self.invariant.tied c.args.counted_too a.calls
    c.in-Some.found.slot (key_name c.args.key) c.in-Some.found.flags c.in-Some.ensures.found

pub returns-else-is_next-clause-state : goal.returns-else-is_next-clause-state
returns-else-is_next-clause-state c =
    let here = (goal.at.returns-else-is_next-clause-state c).In-Some in
    c.self.view_is ∙ placed_as c.args.counted_too c.args.self.now (key_name c.args.key) false (decided here ∙ sym c.is_next-is_next.ensures ∙ c.if-is_next.false)

pub returns-else-is_next-clause-answer : goal.returns-else-is_next-clause-answer
returns-else-is_next-clause-answer c = c.is_next-is_next.ensures ∙ sym (decided (goal.at.returns-else-is_next-clause-answer c).In-Some)

pub push_reserved-requires : goal.push_reserved-requires
push_reserved-requires c =
    let a = c.self.inside in
    let f = c.in-Some.found.flags in
    let bare : f.is_marked ≡ false = not-true f.is_marked (and_parts _ _ (sym c.is_next-is_next.ensures ∙ c.if-is_next.true)).1 in
    let left = room_left c.self.invariant.tied c.in-Some.found.slot (key_name c.args.key) f c.in-Some.ensures.found bare in
    omega (arith, left, length-map a.marked.items (λ i. name_in (registered_at a.slots i)), a.marked.ok.0)

-- the name is marked
module _ (c : After-push_reserved) where
  bare : c.in-Some.found.flags.is_marked ≡ false
  bare = not-true c.in-Some.found.flags.is_marked (and_parts _ _ (sym c.is_next-is_next.ensures ∙ c.if-is_next.true)).1

  written : IsWritten (registered_at c.self.inside.slots) (registered_at c.mark.new.self) c.in-Some.found.slot (record { name = key_name c.args.key; flags = with_mark c.in-Some.found.flags })
  written =
      mark_written c.self.inside.slots c.mark.new.self c.in-Some.found.slot (record { name = key_name c.args.key; flags = c.in-Some.found.flags })
      c.in-Some.ensures.found c.mark.ensures.parts c.mark.ensures.row c.mark.ensures.births c.mark.ensures.flags

  count : slot_count c.mark.new.self ≡ slot_count c.self.inside.slots
  count = ap length c.mark.ensures.flags ∙ length-set c.self.inside.slots.flags.items c.in-Some.found.slot (Some (with_mark c.in-Some.found.flags))

  stays : (q : Registered) → registered_at c.self.inside.slots c.in-Some.found.slot ≡ Some q → q.name ≡ key_name c.args.key
  stays q is = ap (λ (r : Registered). r.name) (same_Some _ _ (sym is ∙ c.in-Some.ensures.found))

pub invariant_of-self-then-is_next : goal.invariant_of-self-then-is_next
invariant_of-self-then-is_next c =
    let a = c.self.inside in
    rw (c.push_reserved.ensures.capacity, c.push_reserved.ensures.items)
    (kept_grown a.slots c.mark.new.self c.in-Some.found.slot _ (written c) (stays c) a.marked.items c.self.invariant.taken true c.locate.new.table a.size a.visits (vec_capacity a.marked)
    (marked_tied c.self.invariant.tied c.in-Some.found.slot (key_name c.args.key) c.in-Some.found.flags c.in-Some.ensures.found (bare c) c.mark.new.self (written c) (count c)
    c.locate.new.table c.mark.ensures.parts c.locate.ensures.led))

pub returns-then-is_next-clause-state : goal.returns-then-is_next-clause-state
returns-then-is_next-clause-state c =
    let a = c.self.inside in
    let here = (goal.at.returns-then-is_next-clause-state c).In-Some in
    let kept = names_kept c.self.invariant.tied c.in-Some.found.slot (key_name c.args.key) c.in-Some.found.flags c.in-Some.ensures.found (bare c) c.mark.new.self (written c) (count c) in
    let named = names_grown a.slots c.mark.new.self c.in-Some.found.slot _ (written c) (stays c) a.marked.items c.self.invariant.taken true in
    (λ j. seen (kept j) ((ap (names_at c.mark.new.self) c.push_reserved.ensures.items ∙ named) j) a.visits a.calls)
    ∙ ap (λ (m : Marks). record m { marked = m.marked ++ key_name c.args.key ∷ [] }) c.self.view_is
    ∙ placed_as c.args.counted_too c.args.self.now (key_name c.args.key) true (decided here ∙ sym c.is_next-is_next.ensures ∙ c.if-is_next.true)

pub returns-then-is_next-clause-answer : goal.returns-then-is_next-clause-answer
returns-then-is_next-clause-answer c = c.is_next-is_next.ensures ∙ sym (decided (goal.at.returns-then-is_next-clause-answer c).In-Some)
