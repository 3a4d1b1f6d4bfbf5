use Rattle.std.proofs.Common.{refl, ap, ◌∙◌}
use Rattle.intern_table.specs.Hashes.{hash_of}
use Rattle.intern_table.specs.Joined.{items_in, sliced_entry, sliced_hash}
use Rattle.intern_table.specs.Sliced.{Sliced, sliced_fits, sliced_input}
use Rattle.intern_index.proofs.Seen.{found, unfound}
use Rattle.intern_table.proofs.Joins.{sliced_input-fits}
use Rattle.intern_table.proofs.Tabled.{seen_entries}
use Rattle.intern_table.proofs.slice_table.SliceTableSeeksTuple2RefSlice.seek.Goals as goal

pub returns-clause-found : goal.returns-clause-found
returns-clause-found g c =
    let test : Sliced g.row.H.Denot g.row.S.Denot → _ = sliced_fits (g.Q.Equivalent.equivalent c.args.query.now.0) g.S.PartialEq.eq c.args.query.now.1.now in
    found (sliced_entry g.A.NearItems.near_of c.self.inside.items.items) _ test
    (λ r. ap (λ xs. test (record { header = r.value.header; items = items_in (g.A.NearItems.near_of r.value.near) r.payload.start xs })) c.as_slice.ensures.value)
    c.self.inside.index _ (seen_entries c.self.view_is) (λ s. s.birth) c.find.result c.find.ensures.found

pub returns-clause-none : goal.returns-clause-none
returns-clause-none g c =
    let input = sliced_input g.H.Hash.hash_input g.S.Hash.hash_input in
    let hash_by = hash_of g.B.BuildHasher g.B.Hasher.Hasher c.self.inside.hasher in
    let header = g.Q.Equivalent.equivalent c.args.query.now.0 in
    let test : Sliced g.row.H.Denot g.row.S.Denot → _ = sliced_fits header g.S.PartialEq.eq c.args.query.now.1.now in
    unfound (sliced_entry g.A.NearItems.near_of c.self.inside.items.items) _ test
    (λ r. ap (λ xs. test (record { header = r.value.header; items = items_in (g.A.NearItems.near_of r.value.near) r.payload.start xs })) c.as_slice.ensures.value)
    c.self.inside.index _ (seen_entries c.self.view_is) (λ v. hash_by (input v)) _
    (λ w e. c.hash_slice-hash.ensures ∙ ap hash_by (sliced_input-fits _ g.H.Hash.hash_input g.S.Hash.hash_input header g.S.PartialEq.eq (g.met.Q.Equivalent.respects_hash c.args.query.now.0) g.met.S.Hash.respects_eq c.args.query.now.1.now w e))
    (sliced_hash g.A.NearItems.near_of (λ v. hash_by (input v)) c.self.inside.items.items) (λ r. refl) c.self.invariant.led c.find.result c.find.ensures.none
