use Rattle.std.proofs.Common.{sym, ◌∙◌, ap, is_some}
use Rattle.intern_store.specs.Named.{key_name}
use Rattle.intern_marks.specs.Marks.{marks}
use Rattle.intern_marks.specs.Reach.{children_in, children_of}
use Rattle.ra_ap_intern.proofs.Pairs.{in_first, in_second, no_children}
use Rattle.ra_ap_intern.proofs.gc.family.PairFamily.visit.Goals as goal

pub returns-then-visit-clause-found : goal.returns-then-visit-clause-found
returns-then-visit-clause-found g c =
    let there = sym c.visit.ensures.found ∙ c.if-visit.true in
    c.visit.ensures.found
    ∙ sym (ap is_some (in_first _ (g.B.Family.entries c.args.self.now.second) (key_name c.args.key) there))

pub returns-then-visit-clause-marks : goal.returns-then-visit-clause-marks
returns-then-visit-clause-marks g c =
    let there = sym c.visit.ensures.found ∙ c.if-visit.true in
    c.visit.ensures.marks
    ∙ ap (λ o. marks c.args.gc.now (children_of o))
    (sym (in_first _ (g.B.Family.entries c.args.self.now.second) (key_name c.args.key) there))

pub returns-else-visit-clause-found : goal.returns-else-visit-clause-found
returns-else-visit-clause-found g c =
    let none = sym c.visit.ensures.found ∙ c.if-visit.false in
    c.visit-else-visit.ensures.found
    ∙ sym (ap is_some (in_second _ (g.B.Family.entries c.args.self.now.second) (key_name c.args.key) none))

pub returns-else-visit-clause-marks : goal.returns-else-visit-clause-marks
returns-else-visit-clause-marks g c =
    let none = sym c.visit.ensures.found ∙ c.if-visit.false in
    let second = g.B.Family.entries c.args.self.now.second in
    c.visit-else-visit.ensures.marks
    ∙ ap (λ s. marks s (children_in second (key_name c.args.key)))
    (c.visit.ensures.marks ∙ ap (λ ns. marks c.args.gc.now ns) (no_children _ (key_name c.args.key) none))
    ∙ ap (λ o. marks c.args.gc.now (children_of o)) (sym (in_second _ second (key_name c.args.key) none))
