use Rattle.std.proofs.Common.{Some, refl, ap, sym, subst, ◌∙◌, arith}
use Rattle.std.specs.FinMap as map
use Rattle.std.proofs.lemmas.Option.{none-some}
use Rattle.slab.specs.Slab.{Slab, Updates}
use Rattle.intern_buckets.specs.Leading.{leads}
use Rattle.intern_index.specs.IndexEntry.{IsLed}
use Rattle.intern_index.specs.Keyed.{IsKeyed}
use Rattle.intern_index.specs.declared.entry.Entry.{Entry}
use Rattle.intern_index.proofs.Held.{entries_seen}
use Rattle.intern_index.proofs.Changes.{inserted_tied, put_roomy, seen_some, written_seen}
use Rattle.intern_index.proofs.Finds.{entered, keyed_slots, led_slots, keyed_one_more}
use Rattle.intern_index.proofs.index.Index.insert.Goals as goal

pub make_room-requires-clause-keyed : goal.make_room-requires-clause-keyed
make_room-requires-clause-keyed g c =
    let key = g.K.Hashes.hash_of c.args.by.now in
    keyed_slots key c.self.inside.slots _ _ c.self.invariant _ (subst (IsLed key) (sym c.self.view_is) c.requires.led)

pub invariant_of-self-in-Ok : goal.invariant_of-self-in-Ok
invariant_of-self-in-Ok g c =
    let s = c.self.inside.slots in
    let key = c.vacant_key-place.ensures in
    let put =
    subst (λ b. Updates s c.insert_reserved.new.self c.vacant_key-place.result (Some (record { birth = b; value = c.in-Ok.value; payload = c.args.payload }))) c.of.ensures
    (put_roomy s c.reserve.new.self _ _ _ _ c.reserve.ensures.rest_kept c.insert_reserved.ensures.key key.value c.insert_reserved.ensures.updates)
    in
    let tied = c.self.invariant in
    let here = c.insert_reserved.ensures.key ∙ ap (λ (r : Slab (Entry g.row.T.Denot g.row.N.Denot)). r.vacant_key) c.reserve.ensures.rest_kept ∙ sym key.value in
    inserted_tied s c.insert_reserved.new.self (g.B.Births.IsFor c.make_room-2.new.self)
    (record { apart = tied.apart; found = c.make_room-2.ensures.finds; told = tied.told }) _ c.vacant_key-place.result _ key.vacant
    (λ p b at. c.requires.fresh b (seen_some s s _ c.self.invariant _ (entries_seen _ _ _ _ c.self.view_is) p b at)) put
    (omega (arith, here, c.insert_reserved.ensures.key_in_range, c.insert_reserved.ensures.capacity, c.capacity.ensures.value, c.if-capacity-ge-PLACES.false))
    c.enter-in-Ok.ensures.entered

pub returns-in-Ok-clause-ok : goal.returns-in-Ok-clause-ok
returns-in-Ok-clause-ok g c =
    let s = c.self.inside.slots in
    let key = c.vacant_key-place.ensures in
    let put =
    subst (λ b. Updates s c.insert_reserved.new.self c.vacant_key-place.result (Some (record { birth = b; value = c.in-Ok.value; payload = c.args.payload }))) c.of.ensures
    (put_roomy s c.reserve.new.self _ _ _ _ c.reserve.ensures.rest_kept c.insert_reserved.ensures.key key.value c.insert_reserved.ensures.updates)
    in
    let view = entries_seen _ _ _ _ c.self.view_is in
    written_seen s c.insert_reserved.new.self _ c.self.invariant _ view c.vacant_key-place.result c.args.birth _ refl
    (λ p at. let lower = c.requires.fresh c.args.birth (seen_some s s _ c.self.invariant _ view p c.args.birth at) in absurd (omega arith))
    (λ d there. absurd (none-some d (sym key.vacant ∙ there))) put
    ∙ ap (λ v. map.insert c.args.self.now.entries c.args.birth (record { place = c.vacant_key-place.result; value = v; payload = c.args.payload })) c.in-Ok.ensures.ok

pub returns-in-Ok-clause-led : goal.returns-in-Ok-clause-led
returns-in-Ok-clause-led g c =
    let s = c.self.inside.slots in
    let hash_of = g.K.Hashes.hash_of c.args.by.now in
    let key = c.vacant_key-place.ensures in
    let put = put_roomy s c.reserve.new.self _ _ _ _ c.reserve.ensures.rest_kept c.insert_reserved.ensures.key key.value c.insert_reserved.ensures.updates in
    led_slots hash_of c.insert_reserved.new.self _ _
    (keyed_one_more hash_of s c.insert_reserved.new.self c.make_room.new.self.buckets c.enter.new.self.buckets c.vacant_key-place.result _ put c.make_room.ensures.keyed
    (ap (λ v. leads c.enter.new.self.buckets (hash_of v c.args.payload) c.vacant_key-place.result) c.in-Ok.ensures.ok
    ∙ ap (λ h. leads c.enter.new.self.buckets h c.vacant_key-place.result) (sym c.requires.hash) ∙ c.enter.ensures.entered) c.enter.ensures.still)

-- where nothing is stored, the table leads to the entries as it did, also once it was built anew
pub returns-in_default-clause-led : goal.returns-in_default-clause-led
returns-in_default-clause-led g c =
    let hash_of = g.K.Hashes.hash_of c.args.by.now in
    let t = c.make_room.new.self.buckets in
    led_slots hash_of c.reserve.new.self t _ (subst (IsKeyed t (entered hash_of)) (sym c.reserve.ensures.rest_kept) c.make_room.ensures.keyed)

pub returns-then-capacity-ge-PLACES-clause-led : goal.returns-then-capacity-ge-PLACES-clause-led
returns-then-capacity-ge-PLACES-clause-led g c =
    let hash_of = g.K.Hashes.hash_of c.args.by.now in
    let t = c.make_room.new.self.buckets in
    led_slots hash_of c.reserve.new.self t _ (subst (IsKeyed t (entered hash_of)) (sym c.reserve.ensures.rest_kept) c.make_room.ensures.keyed)

pub returns-in-Err-clause-led : goal.returns-in-Err-clause-led
returns-in-Err-clause-led g c =
    let hash_of = g.K.Hashes.hash_of c.args.by.now in
    let t = c.make_room.new.self.buckets in
    led_slots hash_of c.reserve.new.self t _ (subst (IsKeyed t (entered hash_of)) (sym c.reserve.ensures.rest_kept) c.make_room.ensures.keyed)
