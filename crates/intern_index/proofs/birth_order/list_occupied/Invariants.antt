use Rattle.std.proofs.Common.{◌≡◌, ◌+◌, ◌≤◌, ◌<◌, ◌++◌, length, vec_len, vec_capacity}
use Rattle.std.specs.Prelude.{map as list_map}
use Rattle.slab.specs.Slab.{entries, slab_len}
use Rattle.intern_index.proofs.birth_order.list_occupied.Given as goal

-- the places so far, and those that are left, for all of which there is room
abbrev pub invariant-loop-place : goal.invariant-loop-place
invariant-loop-place g l = record {
  places : l.places.items ++ list_map (λ e. e.0) l.place-iterator ≡ list_map (λ e. e.0) (entries l.slots);
  counted : vec_len l.places + length l.place-iterator ≡ slab_len l.slots;
  room : slab_len l.slots < vec_capacity l.places;
  wider : vec_capacity l.fn.places ≤ vec_capacity l.places;
}
