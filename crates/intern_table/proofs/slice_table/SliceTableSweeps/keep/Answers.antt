use Rattle.std.proofs.Common.{ℕ, ap}
use Rattle.intern_index.specs.IndexEntry.{Indexed}
use Rattle.intern_index.proofs.Seen.{retained_led}
use Rattle.intern_table.specs.Hashes.{hash_of}
use Rattle.intern_table.specs.Joined.{sliced_hash}
use Rattle.intern_table.specs.Sliced.{Sliced, sliced_input}
use Rattle.intern_table.specs.declared.layout.SliceRow.{SliceRow}
use Rattle.intern_table.specs.declared.pool.SlicePayload.{SlicePayload}
use Rattle.intern_table.proofs.Joins.{retained_laid, moved_led, keeps_seen}
use Rattle.intern_table.proofs.Tabled.{seen_entries}
use Rattle.intern_table.proofs.slice_table.SliceTableSweeps.keep.Goals as goal

pub compact-requires : goal.compact-requires
compact-requires g c = retained_laid g.A.NearItems.near_of _ _ (g.M.Keeps.marked c.args.marks.now) _ c.self.invariant.joined.laid (ap (λ (i : Indexed (SliceRow g.row.H.Denot g.row.A.Denot) SlicePayload). i.entries) c.keep.ensures)

pub invariant_of-self : goal.invariant_of-self
invariant_of-self g c =
    record {
      joined = record { laid = c.compact.ensures.laid; full = c.compact.ensures.full };
      led =
          let hash : Sliced g.row.H.Denot g.row.S.Denot → ℕ = λ v. hash_of g.B.BuildHasher g.B.Hasher.Hasher c.self.inside.hasher (sliced_input g.H.Hash.hash_input g.S.Hash.hash_input v) in
          moved_led g.A.NearItems.near_of hash c.keep.new.self c.compact.new.index c.self.inside.items.items _ c.compact.ensures.buckets c.compact.ensures.same
          (retained_led (sliced_hash g.A.NearItems.near_of hash c.self.inside.items.items) _ _ (g.M.Keeps.marked c.args.marks.now) c.self.invariant.led c.keep.ensures);
    }

pub returns-clause-kept : goal.returns-clause-kept
returns-clause-kept g c =
    keeps_seen g.A.NearItems.near_of _ _ (g.M.Keeps.marked c.args.marks.now) _ _ _ (ap (λ (i : Indexed (SliceRow g.row.H.Denot g.row.A.Denot) SlicePayload). i.entries) c.keep.ensures) c.compact.ensures.same _ (seen_entries c.self.view_is)
