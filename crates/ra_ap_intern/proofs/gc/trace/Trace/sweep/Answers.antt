use Rattle.std.proofs.Common.{◌+◌, ◌≤◌, List, length, sym, ◌∙◌, ap, arith}
use Rattle.std.specs.FinMap.{len}
use Rattle.intern_marks.specs.Reach.{Entry}
use Rattle.intern_marks.specs.Marks.{Marks}
use Rattle.intern_marks.specs.Names.{has}
use Rattle.intern_marks.proofs.Counting.{all_named}
use Rattle.ra_ap_intern.proofs.Following.{removed_are}
use Rattle.ra_ap_intern.proofs.gc.trace.Trace.sweep.Goals as goal
use Rattle.ra_ap_intern.proofs.gc.trace.Trace.sweep.Goals.{then-visits-entries, else-visits-entries}

pub returns-clause-family : goal.returns-clause-family
returns-clause-family g c =
    let old = c.args.family.now in
    let all = g.F.Family.entries old in
    let of = c.requires in
    let marks = c.self.view_is in
    elim c.if-visits-entries.branch [
      | then-visits-entries w ↦ w.family-is ∙ w.sweep.ensures ∙ ap (λ (m : Marks). g.F.Family.kept old (has m.marked)) marks
      | else-visits-entries w ↦
          let many : length all ≤ length c.args.self.marked =
          let visited = ap (λ t. t.collector.visits) c.self-inside.view_is ∙ ap (λ (m : Marks). m.visits) marks in
          let registered = ap (λ t. len t.collector.registered) c.self-inside.view_is ∙ ap (λ (m : Marks). len m.registered) marks in
          omega (arith, visited, registered, of.size, of.visits, c.visits-visits.ensures, c.len-entries.ensures.size, w.if-visits-entries.false) in
          w.family-is
          ∙ sym (g.met.F.Family.kept_whole old (has c.args.self.marked)
          (all_named all c.args.self.marked of.once of.there many))
    ]

pub returns-clause-removed : goal.returns-clause-removed
returns-clause-removed g c =
    let old = c.args.family.now in
    let all = g.F.Family.entries old in
    let set = has c.args.self.marked in
    let left = ap g.F.Family.entries (returns-clause-family g c) ∙ g.met.F.Family.kept_entries old set in
    let removed = removed_are all (g.F.Family.entries c.if-visits-entries.family) set c.len-entries.result c.len.result
    c.saturating_sub.result left c.len-entries.type_inv
    (c.len-entries.ensures.size ∙ ap (λ t. len t.collector.registered) c.self-inside.view_is
    ∙ ap (λ (m : Marks). len m.registered) c.self.view_is ∙ c.requires.size) c.len.ensures
    c.saturating_sub.ensures in
    ap (λ (es : List Entry). c.saturating_sub.result + length es) (sym left) ∙ removed
