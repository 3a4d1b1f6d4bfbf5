-- A trace, from its beginning to the last visit.
use Rattle.std.proofs.Common.{◌≡◌, ℕ, ◌+◌, ◌-◌, ◌^◌, ◌<◌, ◌≤◌, min, arith, Bool, true, not, List, length, refl, sym, ◌∙◌, ap, subst}
use Rattle.std.proofs.Math.Nat.{min-eq_left}
use Rattle.std.proofs.lemmas.List.{take_all}
use Rattle.std.proofs.lemmas.List.Filters.{length-filter_both}
use Rattle.std.specs.FinMap.{len, empty}
use Rattle.std.specs.List.{filter}
use Rattle.intern_marks.specs.Learning.{Learns}
use Rattle.intern_marks.specs.Marks.{Marks, fresh, root, roots}
use Rattle.intern_marks.specs.Reach.{Entry, starts_with, kept_entries, calls_of}
use Rattle.intern_marks.specs.Trace.{IsTrace}
use Rattle.intern_marks.proofs.Counting.{reached_entry}
use Rattle.intern_marks.proofs.Steps.{root_places, each-registered}
use Rattle.intern_marks.proofs.Traces.{reached_at_end, trace_begins}
use Rattle.intern_store.specs.declared.names.Name.{Name}
use Rattle.ra_ap_intern.specs.Families.{IsCollection, IsTraced}
use Rattle.ra_ap_intern.specs.declared.gc.Collected.{Collected}
use Rattle.ra_ap_intern.proofs.Registering.{learnt_size}

-- no more are left than there were
fewer_left : (p : Entry → Bool) (es : List Entry) → length (filter p es) ≤ length es
fewer_left p es =
    let both = length-filter_both p (λ e. not (p e)) (λ e. refl) es in
    omega arith

-- what is told to be removed: what was registered, less what is left
pub removed_are : (all rest : List Entry) (set : Name → Bool) (entries left removed : ℕ) → rest ≡ filter (λ e. set e.name) all
    → entries < 2 ^ 64 → entries ≡ length all → left ≡ min (length rest) (2 ^ 64 - 1) → removed ≡ entries - left
    → removed + length rest ≡ length all
removed_are all rest set entries left removed kept small whole is told =
    let fewer : length rest ≤ length all = subst (λ n. n ≤ length all) (sym (ap length kept)) (fewer_left (λ e. set e.name) all) in
    let same : left ≡ length rest = is ∙ min-eq_left (omega arith) in
    omega arith

-- marks of a learnt family, with names that are listed beside, begin a trace, and know its entries
pub roots_begin : (family : List Entry) (listed : List Name) (learnt m : Marks) → Learns true family (fresh empty) learnt
    → m ≡ roots learnt listed → IsTrace (starts_with listed family) family m × (len m.registered ≡ length family)
roots_begin family listed learnt m is rooted = (
  subst (IsTrace (starts_with listed family) family) (sym rooted) (trace_begins family listed learnt is),
  ap (λ (n : Marks). len n.registered) rooted
      ∙ ap len (each-registered true root root_places learnt listed) ∙ learnt_size true family learnt is,
)

-- what a trace knows at its end
pub traced : (family : List Entry) (listed : List Name) (m : Marks) → IsTrace (starts_with listed family) family m
    → length m.marked ≤ m.visits → len m.registered ≡ length family → IsTraced (starts_with listed family) family m
traced family listed m t done size =
    let reached = reached_at_end (starts_with listed family) family m t done in
    record {
      reached = reached;
      mark_calls = t.calls ∙ ap (calls_of family) (take_all m.visits m.marked done);
      trace = record {
        once = t.once;
        there = λ name among. let r = (reached.reached name).0 among in reached_entry listed family r.0 name r.1;
        visits = let within = t.within in omega arith;
        size = size;
      };
    }

-- and what a collection tells that sweeps after it
pub collection : (begins : Name → Bool) (family : List Entry) (m : Marks) (told : Collected) → IsTraced begins family m
    → told.visits ≡ m.visits → told.mark_calls ≡ m.calls → told.removed + length (kept_entries family m.marked) ≡ length family
    → IsCollection begins family m.marked told
collection begins family m told t visits calls removed = record {
  reached = t.reached;
  visits = visits ∙ t.trace.visits;
  mark_calls = calls ∙ t.mark_calls;
  removed = removed;
}
