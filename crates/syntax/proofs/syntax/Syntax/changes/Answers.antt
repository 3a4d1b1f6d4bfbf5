use Rattle.std.proofs.Common.{◌≡◌, ◌+◌, ◌∙◌, ◌++◌, ◌∷◌, ap, map, reverse, [], rules}
use Rattle.syntax.specs.Changes.{swap, olds_of, news_of}
use Rattle.syntax.proofs.Edits.{leads_init, leads_end, leads_popped, leads_same, leads_inside, leads_told, leads_as, leads_long, told_more, same_told}
use Rattle.syntax.proofs.Least.{least}
use Rattle.syntax.proofs.syntax.Syntax.changes.Goals as goal
use Rattle.syntax.proofs.syntax.Syntax.changes.Goals.{in-Some-inside+in_ok-push_parts-in-Some-inside, in-None+in_ok-push-in-None}

pub loop-init : goal.loop-init
loop-init c t u old new =
    leads_init c.args.self.now.terms c.args.whole c.push.new.self.items
    c.new-changes.result.items t u
    (c.in_ok-push.ensures.items ∙ ap (λ xs. xs ++ c.args.whole ∷ []) c.new-pairs.ensures.items)
    c.new-changes.ensures.items old new

pub returns-in_default-clause-changed : goal.returns-in_default-clause-changed
returns-in_default-clause-changed c t u old new =
    let none : c.loop.pairs.items ≡ [] = search rules in
    leads_end c.args.self.now.terms c.loop.counter c.loop.pairs.items c.loop.changes.items t u none
    (c.loop.invariant t u old new)

pub returns-in_default-clause-least : goal.returns-in_default-clause-least
returns-in_default-clause-least c t u old new m n =
    let s = c.args.self.now.terms in
    let one = c.each_term_has_one_tree.ensures.no_other s in
    least s one t u (map swap c.loop.changes.items) m n (returns-in_default-clause-changed c t u old new)

pub loop-preserved-then-same : goal.loop-preserved-then-same
loop-preserved-then-same c t u old new =
    let s = c.args.self.now.terms in
    let pair = c.in-Some.pair in
    let over = leads_popped s c.loop.counter c.pop.new.self.items c.loop.pairs.items pair
    (map swap c.loop.changes.items) t u c.in-Some.ensures.items (c.loop.invariant t u old new) in
    leads_same s c.loop.counter pair.old.tree pair.new.tree (olds_of (reverse c.pop.new.self.items))
    (news_of (reverse c.pop.new.self.items)) (map swap c.loop.changes.items) t u over
    (same_told c.same.result (over.old ≡ over.new) c.if-same.true
    (c.same.ensures over.old over.new over.old_is over.new_is))

pub loop-preserved : goal.loop-preserved
loop-preserved c t u old new =
    let s = c.args.self.now.terms in
    let pair = c.in-Some.pair in
    let olds = olds_of (reverse c.pop.new.self.items) in
    let news = news_of (reverse c.pop.new.self.items) in
    let told = map swap c.loop.changes.items in
    let over = leads_popped s c.loop.counter c.pop.new.self.items c.loop.pairs.items pair told t u
    c.in-Some.ensures.items (c.loop.invariant t u old new) in
    elim c.match-inside.branch [
      | in-Some-inside+in_ok-push_parts-in-Some-inside w ↦
          let parts = w.in-Some-inside.ensures in
          let xs = w.in-Some-inside.olds.now in
          let ys = w.in-Some-inside.news.now in
          leads_as s (c.loop.counter + 1) (xs ++ olds) _ (ys ++ news) _ told _ t u
          (ap (λ v. olds_of (reverse v.items)) w.pairs-is
          ∙ w.in_ok-push_parts-in-Some-inside.ensures.olds)
          (ap (λ v. news_of (reverse v.items)) w.pairs-is
          ∙ w.in_ok-push_parts-in-Some-inside.ensures.news)
          (ap (λ v. map swap v.items) w.changes-is)
          (leads_inside s c.loop.counter pair.old.tree pair.new.tree olds news xs ys told t u over
          (parts.some over.old over.new over.old_is over.new_is) parts.length)
      | in-None+in_ok-push-in-None w ↦
          leads_as s (c.loop.counter + 1) olds _ news _ (told ++ swap pair ∷ []) _ t u
          (ap (λ v. olds_of (reverse v.items)) w.pairs-is)
          (ap (λ v. news_of (reverse v.items)) w.pairs-is)
          (ap (λ v. map swap v.items) w.changes-is
          ∙ told_more c.loop.changes.items w.push-in-None.new.self.items pair
          w.in_ok-push-in-None.ensures.items)
          (leads_told s c.loop.counter pair olds news told t u over
          (w.in-None.ensures.none over.old over.new over.old_is over.new_is))
    ]

pub returns-clause-long : goal.returns-clause-long
returns-clause-long c t u old new too_long =
    leads_long c.args.self.now.terms c.loop.counter c.args.most _ _ _ t u c.loop-test.false
    (c.loop.invariant t u old new)
