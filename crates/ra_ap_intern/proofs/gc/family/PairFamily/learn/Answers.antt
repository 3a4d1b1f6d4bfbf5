use Rattle.std.proofs.Common.{Option, ◌∙◌, ap}
use Rattle.std.proofs.lemmas.Bool.{or_right}
use Rattle.std.proofs.lemmas.Result.{on_ok_weaker}
use Rattle.std.specs.FinMap.{get}
use Rattle.std.specs.Option.{option_map, option_or}
use Rattle.intern_marks.specs.Reach.{Entry, is_counted}
use Rattle.ra_ap_intern.specs.Families.{has_number}
use Rattle.ra_ap_intern.specs.PairLaws.{has_either}
use Rattle.ra_ap_intern.proofs.Pairs.{are_apart, none_in_first}
use Rattle.ra_ap_intern.proofs.Registering.{learns_both}
use Rattle.ra_ap_intern.proofs.gc.family.PairFamily.learn.Goals as goal

pub learn-requires-clause-distinct : goal.learn-requires-clause-distinct
learn-requires-clause-distinct g c =
    (are_apart (g.A.Numbered.numbers c.args.self.now.first) (g.B.Numbered.numbers c.args.self.now.second) c.requires.distinct).first

pub learn-requires-2-clause-distinct : goal.learn-requires-2-clause-distinct
learn-requires-2-clause-distinct g c =
    (are_apart (g.A.Numbered.numbers c.args.self.now.first) (g.B.Numbered.numbers c.args.self.now.second) c.requires.distinct).second

pub learn-requires-2-clause-new : goal.learn-requires-2-clause-new
learn-requires-2-clause-new g c = λ x there.
    let p = c.args.self.now in
    let first = g.A.Numbered.numbers p.first in
    let second = g.B.Numbered.numbers p.second in
    c.in_ok-learn.ensures.registered x
    ∙ ap (λ (o : Option Entry). option_or (option_map (λ (e : Entry). is_counted e.count) o) (get c.args.marks.now.registered x))
    (none_in_first (g.A.Family.entries p.first) first second (g.met.A.Family.numbered p.first) c.requires.distinct x there)
    ∙ c.requires.new x (has_either first second x.storage ∙ or_right (has_number first x.storage) (has_number second x.storage) there)

pub returns : goal.returns
returns g c =
    let p = c.args.self.now in
    let first = g.A.Family.entries p.first in
    on_ok_weaker c.learn-2.result
    (learns_both c.args.roots first (g.B.Family.entries p.second)
    (λ x there. none_in_first first (g.A.Numbered.numbers p.first) (g.B.Numbered.numbers p.second) (g.met.A.Family.numbered p.first)
    c.requires.distinct x (g.met.B.Family.numbered p.second x there))
    c.args.marks.now c.learn.new.marks c.learn-2.new.marks c.in_ok-learn.ensures)
    c.learn-2.ensures
