use Rattle.std.proofs.Common.{◌≡◌, ℕ, ◌+◌, ◌≤◌, nat_eq, Bool, true, false, cond, List, [], ◌∷◌, ◌++◌, None, Some, vec_capacity, refl, sym, ap, ◌∙◌, arith}
use Rattle.std.specs.FinMap.{get}
use Rattle.intern_store.specs.Named.{key_name}
use Rattle.intern_marks.specs.Marks.{Marks, added}
use Rattle.intern_marks.specs.Slotted.{slot_count, registered_at, names_in, names_at}
use Rattle.intern_marks.specs.declared.flags.Registered.{Registered}
use Rattle.intern_marks.specs.Tied.{IsKept, IsLed}
use Rattle.intern_marks.specs.declared.found.Table.{Table}
use Rattle.intern_marks.proofs.Tied.{seen, unfilled, names_added, added_tied}
use Rattle.intern_marks.proofs.Slotted.{IsWritten, at_past}
use Rattle.intern_marks.proofs.Kept.{fewer_slots, same_kept, names_grown, kept_grown}
use Rattle.intern_marks.proofs.marks.Marks.add.Goals as goal
use Rattle.intern_marks.proofs.marks.Marks.add.Goals.{After-make_room, After-put}

pub overflow_sub-self-inside : goal.overflow_sub-self-inside
overflow_sub-self-inside c =
    let a = c.self.inside in
    omega (arith, fewer_slots a.marked c.self.invariant, c.len.ensures)

-- once there is room, the slots have in them what they had
roomy : (c : After-make_room) (u : Table) → let a = c.self.inside in IsLed a.slots u → IsKept c.make_room.new.self u a.size a.marked.items a.visits (vec_capacity a.marked)
roomy c u led =
    same_kept c.self.invariant c.make_room.new.self c.make_room.ensures.same c.make_room.ensures.count
    (c.make_room.ensures.follow c.self.invariant.tied.follow) u led

pub invariant_of-self : goal.invariant_of-self
invariant_of-self c = roomy (goal.at.invariant_of-self c).After-make_room c.self.inside.table c.self.invariant.tied.led

pub invariant_of-self-in_err-make_room : goal.invariant_of-self-in_err-make_room
invariant_of-self-in_err-make_room c =
    roomy (goal.at.invariant_of-self-in_err-make_room c).After-make_room c.make_room-2.new.self (unfilled c.self.inside.slots c.make_room-2.new.self c.make_room-2.ensures)

pub invariant_of-self-in_err-reserve : goal.invariant_of-self-in_err-reserve
invariant_of-self-in_err-reserve c =
    let u = c.make_room-2.new.self in
    rw (c.in_err-reserve.ensures.items, c.in_err-reserve.ensures.err) (roomy (goal.at.invariant_of-self-in_err-reserve c).After-make_room u (unfilled c.self.inside.slots u c.make_room-2.ensures))

-- the entry is put
module _ (c : After-put) where
  abbrev items : List ℕ
  items = c.self.inside.marked.items

  written : IsWritten (registered_at c.self.inside.slots) (registered_at c.put.new.self) c.in_ok-slot.slot (record { name = key_name c.args.key; flags = c.args.flags })
  written j = c.put.ensures.put j ∙ ap (cond (nat_eq j c.in_ok-slot.slot) (Some (record { name = key_name c.args.key; flags = c.args.flags }))) (c.make_room.ensures.same j)

  unknown : get (names_in c.self.inside.slots) (key_name c.args.key) ≡ None
  unknown = ap (λ (m : Marks). get m.registered (key_name c.args.key)) c.self.view_is ∙ c.requires

  behind : slot_count c.self.inside.slots ≤ c.in_ok-slot.slot
  behind = omega (arith, c.make_room.ensures.count, c.in_ok-slot.ensures.behind)

  -- the slots of what is marked then, where it is known whether the entry is
  abbrev grown : Bool → List ℕ
  grown b = cond b (items ++ c.in_ok-slot.slot ∷ []) items

  was_vacant : (q : Registered) → registered_at c.self.inside.slots c.in_ok-slot.slot ≡ Some q → q.name ≡ key_name c.args.key
  was_vacant q is = let none = sym (at_past c.self.inside.slots c.in_ok-slot.slot behind) ∙ is in absurd (cc)

  fits : c.self.inside.size + 1 ≤ vec_capacity c.reserve.new.self
  fits = let a = c.self.inside in omega (arith, fewer_slots a.marked c.self.invariant, c.len.ensures, c.in_ok-reserve.ensures.ok, c.in_ok-reserve.ensures.len)

  -- the invariant and the view, with the slots of what is marked then
  put_invariant : (l : List ℕ) (more : ℕ) → l ≡ grown c.args.flags.is_marked → more ≡ vec_capacity c.reserve.new.self
      → IsKept c.put.new.self c.make_room-2.new.self (c.self.inside.size + 1) l c.self.inside.visits more
  put_invariant l more is room =
      let u = c.make_room-2.new.self in
      rw is
      (kept_grown c.self.inside.slots c.put.new.self c.in_ok-slot.slot _ written was_vacant items c.self.invariant.taken c.args.flags.is_marked u (c.self.inside.size + 1) c.self.inside.visits more
      (added_tied c.self.invariant.tied c.in_ok-slot.slot (key_name c.args.key) c.args.flags unknown behind c.put.new.self written c.put.ensures.count
      u more (unfilled c.put.new.self u c.make_room-2.ensures) c.put.ensures.follow c.in_ok-slot.ensures.told (omega (arith, fits, room))))

  put_view : (l : List ℕ) → l ≡ grown c.args.flags.is_marked
      → seen (names_in c.put.new.self) (names_at c.put.new.self l) c.self.inside.visits c.self.inside.calls ≡ added c.args.self.now (key_name c.args.key) c.args.flags.is_counted c.args.flags.is_marked
  put_view l is =
      let names = names_added c.self.invariant.tied c.in_ok-slot.slot (key_name c.args.key) c.args.flags unknown behind c.put.new.self written c.put.ensures.count in
      let marked = names_grown c.self.inside.slots c.put.new.self c.in_ok-slot.slot _ written was_vacant items c.self.invariant.taken c.args.flags.is_marked in
      (λ j. seen (names j) ((ap (names_at c.put.new.self) is ∙ marked) j) c.self.inside.visits c.self.inside.calls)
      ∙ ap (λ (m : Marks). added m (key_name c.args.key) c.args.flags.is_counted c.args.flags.is_marked) c.self.view_is

  marks_it : c.args.flags.is_marked ≡ true → (l : List ℕ) → l ≡ c.reserve.new.self.items ++ c.in_ok-slot.slot ∷ [] → l ≡ grown c.args.flags.is_marked
  marks_it it l is = is ∙ ap (λ (l : List ℕ). l ++ c.in_ok-slot.slot ∷ []) c.in_ok-reserve.ensures.items ∙ sym (ap grown it)

  leaves_it : c.args.flags.is_marked ≡ false → c.reserve.new.self.items ≡ grown c.args.flags.is_marked
  leaves_it it = c.in_ok-reserve.ensures.items ∙ sym (ap grown it)

pub push_reserved-requires : goal.push_reserved-requires
push_reserved-requires c = omega (arith, fits (goal.at.push_reserved-requires c).After-put, fewer_slots c.self.inside.marked c.self.invariant, c.in_ok-reserve.ensures.len)

pub invariant_of-self-then-flags : goal.invariant_of-self-then-flags
invariant_of-self-then-flags c =
    let put = (goal.at.invariant_of-self-then-flags c).After-put in
    put_invariant put _ _ (marks_it put c.if-flags.true _ c.push_reserved.ensures.items) c.push_reserved.ensures.capacity

pub invariant_of-self-else-flags : goal.invariant_of-self-else-flags
invariant_of-self-else-flags c =
    let put = (goal.at.invariant_of-self-else-flags c).After-put in
    put_invariant put _ _ (leaves_it put c.if-flags.false) refl

pub returns-then-flags-clause-ok : goal.returns-then-flags-clause-ok
returns-then-flags-clause-ok c =
    let put = (goal.at.returns-then-flags-clause-ok c).After-put in
    put_view put _ (marks_it put c.if-flags.true _ c.push_reserved.ensures.items)

pub returns-else-flags-clause-ok : goal.returns-else-flags-clause-ok
returns-else-flags-clause-ok c =
    let put = (goal.at.returns-else-flags-clause-ok c).After-put in
    put_view put _ (leaves_it put c.if-flags.false)
