use Rattle.std.proofs.Common.{refl, ap, ◌∙◌}
use Rattle.intern_table.specs.Hashes.{hash_of}
use Rattle.intern_table.specs.Joined.{items_in, sliced_entry, sliced_hash}
use Rattle.intern_table.specs.Sliced.{Sliced, sliced_eq, sliced_input}
use Rattle.intern_index.proofs.Seen.{finds, finds_none}
use Rattle.intern_table.proofs.Joins.{sliced_input-same}
use Rattle.intern_table.proofs.Tabled.{seen_entries}
use Rattle.intern_table.proofs.slice_table.SliceTableFindsTuple2RefSlice.find.Goals as goal

pub returns-clause-found : goal.returns-clause-found
returns-clause-found g c =
    let eq = sliced_eq g.H.PartialEq.eq g.S.PartialEq.eq in
    let v : Sliced g.row.H.Denot g.row.S.Denot = record { header = c.args.offer.now.0; items = c.args.offer.now.1.now } in
    rw c.ok_or.ensures.value (finds (sliced_entry g.A.NearItems.near_of c.self.inside.items.items) _ (eq v)
    (λ r. ap (λ xs. eq v (record { header = r.value.header; items = items_in (g.A.NearItems.near_of r.value.near) r.payload.start xs })) c.as_slice.ensures.value)
    c.self.inside.index _ (seen_entries c.self.view_is) (λ s. s.birth) c.find.result c.hash_slice-hash.result c.find.ensures.found)

pub returns-clause-none : goal.returns-clause-none
returns-clause-none g c =
    let input = sliced_input g.H.Hash.hash_input g.S.Hash.hash_input in
    let hash_by = hash_of g.B.BuildHasher g.B.Hasher.Hasher c.self.inside.hasher in
    let eq = sliced_eq g.H.PartialEq.eq g.S.PartialEq.eq in
    let v : Sliced g.row.H.Denot g.row.S.Denot = record { header = c.args.offer.now.0; items = c.args.offer.now.1.now } in
    rw c.ok_or.ensures.value (finds_none (sliced_entry g.A.NearItems.near_of c.self.inside.items.items) _ (eq v)
    (λ r. ap (λ xs. eq v (record { header = r.value.header; items = items_in (g.A.NearItems.near_of r.value.near) r.payload.start xs })) c.as_slice.ensures.value)
    c.self.inside.index _ (seen_entries c.self.view_is) (λ v. hash_by (input v)) _
    (λ w e. c.hash_slice-hash.ensures ∙ ap hash_by (sliced_input-same g.H.Hash.hash_input g.S.Hash.hash_input g.H.PartialEq.eq g.S.PartialEq.eq g.met.H.Hash.respects_eq g.met.S.Hash.respects_eq v w e))
    (sliced_hash g.A.NearItems.near_of (λ v. hash_by (input v)) c.self.inside.items.items) (λ r. refl) c.self.invariant.led c.find.result c.find.ensures.none)
