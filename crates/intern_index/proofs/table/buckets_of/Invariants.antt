use Rattle.std.proofs.Common.{◌≡◌, ◌⊎◌, ℕ, ◌+◌, ◌≤◌, true, Some, IfSome, length, Contains}
use Rattle.slab.specs.Slab.{get, slab_len}
use Rattle.intern_buckets.specs.Filling.{homes_of, homes_for, full_of}
use Rattle.intern_buckets.specs.Leading.{leads}
use Rattle.intern_index.specs.declared.entry.Entry.{Entry}
use Rattle.intern_index.proofs.table.buckets_of.Given as goal

-- the buckets lead to each entry that isn't left, are no more than these, and keep their homes
abbrev pub invariant-loop-place : goal.invariant-loop-place
invariant-loop-place g l = record {
  left : (p : ℕ) (e : Entry g.row.T.Denot g.row.N.Denot) → Contains l.place-iterator (p, e) → get l.slots p ≡ Some e;
  keyed : (p : ℕ) (e : Entry g.row.T.Denot g.row.N.Denot) → get l.slots p ≡ Some e → (IfSome (g.K.Key.key l.by p e) (λ h. leads l.buckets h p ≡ true)) ⊎ Contains l.place-iterator (p, e);
  once : full_of l.buckets + length l.place-iterator ≤ slab_len l.slots;
  homes : homes_of l.buckets ≡ homes_for l.room;
}
