use Rattle.std.proofs.Common.{◌≡◌, ◌≤◌, length, take, vec_len, vec_capacity}
use Rattle.std.specs.List.{filter_map}
use Rattle.intern_calls.specs.Step.{root_at}
use Rattle.intern_calls.proofs.parts.Parts.roots.Given as goal

abbrev pub invariant-loop-n : goal.invariant-loop-n
invariant-loop-n g l =
    record {
      names : l.names.items ≡ filter_map (root_at l.self.slots.held) (take l.n-index l.slots);
      few : vec_len l.names ≤ l.n-index;
      room : length l.slots ≤ vec_capacity l.names;
    }
