use Rattle.std.proofs.Common.{◌≡◌, ◌++◌, List, map as list_map, vec_len, vec_capacity, ◌+◌, ◌≤◌}
use Rattle.std.specs.Vec.Iter.{into_iter_items, into_iter_len}
use Rattle.ra_ap_intern.specs.Interning.{Interns}
use Rattle.ra_ap_intern.proofs.intern.each.InternStorage+T+B.extend.Given as goal

-- the values before those that are left were interned in turn, and there is room for the others'
-- handles
abbrev pub invariant-loop-value : goal.invariant-loop-value
invariant-loop-value g l = record {
  done : List g.row.T.Denot;
  values : into_iter_items l.fn.values ≡ done ++ into_iter_items l.values;
  turn : Interns g.H.InternHandle.after g.T.PartialEq.eq g.H.InternHandle.owed l.fn.self l.self done
      (list_map g.H.InternHandle.name l.fn.handles.items) (list_map g.H.InternHandle.name l.handles.items);
  room : vec_len l.handles + into_iter_len l.values ≤ vec_capacity l.handles;
}

abbrev pub decreases-loop-value : goal.decreases-loop-value
decreases-loop-value g l = into_iter_len l.values
