use Rattle.std.proofs.Common.{◌≡◌, ◌+◌, ◌≤◌, ◌++◌, true, vec_len, vec_capacity}
use Rattle.std.specs.Vec.Iter.{into_iter_items, into_iter_len}
use Rattle.ra_ap_intern.specs.Families.{are_distinct}
use Rattle.intern_calls.specs.Parts.{world_of}
use Rattle.intern_calls.specs.World.{numbers_of}
use Rattle.intern_calls.specs.World.{kinds_of}
use Rattle.intern_world.specs.Run.{Runs}
use Rattle.intern_world.proofs.turns.run_over.Given as goal

-- the calls so far are a run, what is left is the rest of the calls, and there is room for it
abbrev pub invariant-loop-call : goal.invariant-loop-call
invariant-loop-call g l =
    record {
      run : Runs (kinds_of g.C.PartialEq.eq g.G.PartialEq.eq g.S.Header.PartialEq.eq
          g.S.SliceType.PartialEq.eq g.G.GcInternedVisit.children
          g.S.GcInternedSliceVisit.header_children g.S.GcInternedSliceVisit.slice_children)
          (world_of l.fn.parts) l.yielded l.replies.items (world_of l.parts);
      distinct : are_distinct (numbers_of (world_of l.parts)) ≡ true;
      left : l.yielded ++ into_iter_items l.call-iterator ≡ l.fn.calls.items;
      room : into_iter_len l.call-iterator ≤ l.parts.slots.room;
      reply_room : vec_len l.replies + into_iter_len l.call-iterator ≤ vec_capacity l.replies;
    }
