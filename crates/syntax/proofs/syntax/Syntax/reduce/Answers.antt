use Rattle.std.proofs.Common.{◌∙◌, refl, sym, subst, List}
use Rattle.syntax.specs.Frames.{NoneYields}
use Rattle.syntax.specs.Machine.{reduced}
use Rattle.syntax.specs.declared.machine.Frame.{Frame}
use Rattle.syntax.proofs.Reading.{Reduces, reduces_first, reduces_next, reduces_last, keeps_itself, keeps_on}
use Rattle.syntax.proofs.syntax.Syntax.reduce.Goals as goal

pub loop-frame-init : goal.loop-frame-init
loop-frame-init c = record {
  reduced = λ os t opens unfolds. reduces_first _ _ _ _ os t opens unfolds;
  items = refl;
  keeps = keeps_itself c.args.self.now.terms;
}

pub loop-frame-preserved : goal.loop-frame-preserved
loop-frame-preserved c =
    let popped = c.in-Some.ensures.some in
    record {
      reduced = λ os t opens unfolds.
          reduces_next c.loop-frame.self.terms c.complete.new.self.terms
          c.in_ok-value.ensures.keeps c.pop_yielding.new.self.frames.items
          c.complete.new.machine.frames.items (λ i. (c.in_ok-value.ensures.frames i).items)
          c.in-Some.frame
          c.loop-frame.machine.frames.items popped.0 c.loop-frame.value c.in_ok-value.value
          c.args.before (reduced c.args.before os t) popped.1
          c.in_ok-value.ensures.completed
          (c.loop-frame.invariant.reduced os t opens unfolds);
      items = c.in_ok-value.ensures.items ∙ c.in-Some.ensures.items
          ∙ c.loop-frame.invariant.items;
      keeps = keeps_on _ _ _ c.loop-frame.invariant.keeps c.in_ok-value.ensures.keeps;
    }

pub returns-clause-reduced : goal.returns-clause-reduced
returns-clause-reduced c os t opens unfolds =
    let frames = c.in_default.ensures.stays in
    let fs = c.pop_yielding.new.self.frames.items in
    let P : List Frame → Type 0 = λ fs. NoneYields fs c.args.before in
    reduces_last c.loop-frame.self.terms fs c.loop-frame.value c.args.before
    (reduced c.args.before os t) (subst P (sym frames) c.in_default.ensures.none)
    (subst (λ fs. Reduces c.loop-frame.self.terms fs c.loop-frame.value c.args.before
    (reduced c.args.before os t)) (sym frames)
    (c.loop-frame.invariant.reduced os t opens unfolds))
