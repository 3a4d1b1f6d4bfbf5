use Rattle.std.proofs.Common.{true, false, refl, sym, ◌∙◌}
use Rattle.ra_ap_intern.specs.Families.{are_distinct, meet}
use Rattle.ra_ap_intern.proofs.Pairs.{all_distinct}
use Rattle.ra_ap_intern.proofs.gc.family.PairFamily.is_distinct.Goals as goal
use Rattle.ra_ap_intern.proofs.gc.family.PairFamily.is_distinct.Goals.{then-is_distinct, else-is_distinct}

pub returns-then-is_distinct-2 : goal.returns-then-is_distinct-2
returns-then-is_distinct-2 g c =
    let first = g.A.Numbered.numbers c.args.self.now.first in
    let second = g.B.Numbered.numbers c.args.self.now.second in
    elim c.if-is_distinct.branch [
      | then-is_distinct w ↦ all_distinct first second true true c.meets.result (sym w.if-is_distinct.true ∙ c.is_distinct.ensures)
          (sym c.if-is_distinct-2.true ∙ w.value-is ∙ w.is_distinct-then-is_distinct.ensures) c.meets.ensures
      | else-is_distinct w ↦ cc (c.if-is_distinct-2.true, w.value-is, w.if-is_distinct.false)
    ]

pub returns-else-is_distinct-2 : goal.returns-else-is_distinct-2
returns-else-is_distinct-2 g c =
    let first = g.A.Numbered.numbers c.args.self.now.first in
    let second = g.B.Numbered.numbers c.args.self.now.second in
    c.if-is_distinct-2.false
    ∙ elim c.if-is_distinct.branch [
      | then-is_distinct w ↦ all_distinct first second true false (meet first second) (sym w.if-is_distinct.true ∙ c.is_distinct.ensures)
          (sym c.if-is_distinct-2.false ∙ w.value-is ∙ w.is_distinct-then-is_distinct.ensures) refl
      | else-is_distinct w ↦ all_distinct first second false (are_distinct second) (meet first second)
          (sym w.if-is_distinct.false ∙ c.is_distinct.ensures) refl refl
    ]
