use Rattle.std.proofs.Common.{◌≡◌, ◌++◌, ℕ, List, length, take, ap, sym, subst, ◌∙◌, arith}
use Rattle.intern_index.specs.IndexEntry.{IsLed}
use Rattle.intern_table.specs.Hashes.{hash_of}
use Rattle.intern_table.specs.Joined.{Row, far_in, sliced_entry, sliced_hash}
use Rattle.intern_table.specs.Sliced.{Sliced, sliced_input}
use Rattle.intern_store.proofs.Maps.{all_below}
use Rattle.intern_table.proofs.Joins.{added_items, added_length, adds_joined, adds_seen, cut_back, longer_led, shorter_led, still_joined, still_seen}
use Rattle.intern_table.proofs.Tabled.{seen_entries, seen_hasher}
use Rattle.intern_table.proofs.slice_table.SliceTableTakesTuple2RefSlice.insert.Goals as goal

pub insert-requires-clause-fresh : goal.insert-requires-clause-fresh
insert-requires-clause-fresh g c = all_below (sliced_entry g.A.NearItems.near_of c.self.inside.items.items) _ _ (seen_entries c.self.view_is) c.args.birth c.requires.above

pub insert-requires-clause-led : goal.insert-requires-clause-led
insert-requires-clause-led g c =
    let hash : Sliced g.row.H.Denot g.row.S.Denot → ℕ = λ v. hash_of g.B.BuildHasher g.B.Hasher.Hasher c.self.inside.hasher (sliced_input g.H.Hash.hash_input g.S.Hash.hash_input v) in
    longer_led g.A.NearItems.near_of hash _ _ _ _ c.self.invariant.joined.laid (c.as_slice.ensures.value ∙ c.in-Ok.ensures.items) c.self.invariant.led

pub insert-requires-clause-hash : goal.insert-requires-clause-hash
insert-requires-clause-hash g c =
    let near = g.A.NearItems.near_of in
    let own = near c.of-near.result in
    let xs = c.args.offer.1.now in
    let old = c.self.inside.items.items in
    let counted = c.self.inside.items.ok.0 in
    let begins : c.of.result ≡ length old = omega (arith, c.of.ensures, c.len-start.ensures) in
    let more = c.in-Ok.ensures.items ∙ ap (λ n. old ++ take n xs) c.far_length.ensures in
    let hash_by : g.row.B.Denot → List g.row.S.Denot → ℕ = λ by ys. hash_of g.B.BuildHasher g.B.Hasher.Hasher by (sliced_input g.H.Hash.hash_input g.S.Hash.hash_input (record { header = c.args.offer.0; items = ys })) in
    c.requires.hash
    ∙ ap (λ by. hash_by by xs) (sym (seen_hasher c.self.view_is))
    ∙ ap (hash_by c.self.inside.hasher) (sym (added_items own c.of.result xs old c.as_slice.result.now c.of-near.ensures.items begins (c.as_slice.ensures.value ∙ more)))

pub invariant_of-self-in-Ok-insert : goal.invariant_of-self-in-Ok-insert
invariant_of-self-in-Ok-insert g c =
    let near = g.A.NearItems.near_of in
    let own = near c.of-near.result in
    let xs = c.args.offer.1.now in
    let old = c.self.inside.items.items in
    let counted = c.self.inside.items.ok.0 in
    let begins : c.of.result ≡ length old = omega (arith, c.of.ensures, c.len-start.ensures) in
    let more = c.in-Ok.ensures.items ∙ ap (λ n. old ++ take n xs) c.far_length.ensures in
    let hash : Sliced g.row.H.Denot g.row.S.Denot → ℕ = λ v. hash_of g.B.BuildHasher g.B.Hasher.Hasher c.self.inside.hasher (sliced_input g.H.Hash.hash_input g.S.Hash.hash_input v) in
    record {
      joined =
          adds_joined near _ _ c.self.invariant.joined c.args.birth (all_below (sliced_entry near old) _ _ (seen_entries c.self.view_is) c.args.birth c.requires.above) _ c.extend_from_slice.new.self.items _ (take (far_in own) xs)
          more c.in-Ok-insert.ensures.ok begins (added_length own xs c.of-near.ensures.items);
      led = subst (λ ys. IsLed (sliced_hash near hash ys) c.insert.new.self) c.as_slice.ensures.value c.insert.ensures.led;
    }

pub returns-in-Ok-insert-clause-ok : goal.returns-in-Ok-insert-clause-ok
returns-in-Ok-insert-clause-ok g c =
    let near = g.A.NearItems.near_of in
    let own = near c.of-near.result in
    let xs = c.args.offer.1.now in
    let old = c.self.inside.items.items in
    let counted = c.self.inside.items.ok.0 in
    let begins : c.of.result ≡ length old = omega (arith, c.of.ensures, c.len-start.ensures) in
    let more = c.in-Ok.ensures.items ∙ ap (λ n. old ++ take n xs) c.far_length.ensures in
    let r : Row g.row.H.Denot g.row.A.Denot = record { place = c.in-Ok-insert.place; value = record { header = c.args.offer.0; near = c.of-near.result }; payload = record { start = c.of.result; count = c.of-2.result } } in
    rw (sym c.of-2.ensures) (adds_seen near _ _ c.self.invariant.joined c.args.birth (all_below (sliced_entry near old) _ _ (seen_entries c.self.view_is) c.args.birth c.requires.above) _ c.extend_from_slice.new.self.items r (take (far_in own) xs)
    more c.in-Ok-insert.ensures.ok begins (added_length own xs c.of-near.ensures.items) xs (added_items own c.of.result xs old _ c.of-near.ensures.items begins more) _ (seen_entries c.self.view_is))

pub invariant_of-self-in-Err : goal.invariant_of-self-in-Err
invariant_of-self-in-Err g c =
    let near = g.A.NearItems.near_of in
    let hash : Sliced g.row.H.Denot g.row.S.Denot → ℕ = λ v. hash_of g.B.BuildHasher g.B.Hasher.Hasher c.self.inside.hasher (sliced_input g.H.Hash.hash_input g.S.Hash.hash_input v) in
    let counted = c.self.inside.items.ok.0 in
    let begins : c.len-start.result ≡ length c.self.inside.items.items = omega (arith, c.len-start.ensures) in
    let cut = cut_back _ _ _ _ _ c.in-Ok.ensures.items begins c.truncate.ensures.items in
    record {
      joined = still_joined near _ _ _ c.truncate.new.self.items c.self.invariant.joined c.in-Err.ensures.err cut;
      led = shorter_led near hash c.self.inside.index _ _ _ c.self.invariant.joined.laid (c.as_slice.ensures.value ∙ c.in-Ok.ensures.items) c.insert.new.self _ c.in-Err.ensures.err cut c.insert.ensures.led;
    }

pub returns-in-Err-clause-err : goal.returns-in-Err-clause-err
returns-in-Err-clause-err g c =
    let counted = c.self.inside.items.ok.0 in
    let begins : c.len-start.result ≡ length c.self.inside.items.items = omega (arith, c.len-start.ensures) in
    still_seen g.A.NearItems.near_of _ _ _ c.truncate.new.self.items _ (seen_entries c.self.view_is) c.in-Err.ensures.err (cut_back _ _ _ _ _ c.in-Ok.ensures.items begins c.truncate.ensures.items)
