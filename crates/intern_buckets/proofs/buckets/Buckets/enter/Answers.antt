use Rattle.std.proofs.Common.{◌≤◌, ◌<◌, ◌∙◌, sym, ap, get_or, length, rules, refl, arith}
use Rattle.std.proofs.lemmas.List.{get_or_default}
use Rattle.intern_buckets.specs.Probing.{home, is_empty, bucket}
use Rattle.intern_buckets.specs.Leading.{leads}
use Rattle.intern_buckets.proofs.Probing.{nothing, some_number, no_number, filled_still, filled_met, full_more, more_still, more_met}
use Rattle.intern_buckets.proofs.buckets.Buckets.enter.Goals as goal

pub loop-at-init : goal.loop-at-init
loop-at-init c = record { same = refl; behind = omega arith; full = λ k low high. absurd (omega arith) }

pub loop-at-preserved : goal.loop-at-preserved
loop-at-preserved c = record {
  same = c.loop-at.invariant.same;
  behind = omega arith;
  full =
      let within : c.loop-at.at < length c.loop-at.self.buckets.items = search rules in
      full_more _ c.loop-at.at c.loop-at.self.buckets.items c.loop-at.invariant.full
      (some_number (get_or c.loop-at.self.buckets.items c.loop-at.at nothing) (ap is_empty (sym (get_or_default c.loop-at.self.buckets.items c.loop-at.at c.index.result.now nothing within) ∙ sym c.index.ensures) ∙ sym c.is_empty.ensures ∙ c.if-is_empty.false));
}

pub returns-then-is_empty-clause-entered : goal.returns-then-is_empty-clause-entered
returns-then-is_empty-clause-entered c =
    let within : c.loop-at.at < length c.loop-at.self.buckets.items = search rules in
    rw c.of-bucket.ensures
    (filled_met (bucket c.args.hash c.args.place) (home c.loop-at.self.homes c.args.hash) c.loop-at.at c.loop-at.self.buckets.items
    (λ none. absurd (omega arith)) c.loop-at.invariant.behind within c.loop-at.invariant.full)

pub returns-then-is_empty-clause-still : goal.returns-then-is_empty-clause-still
returns-then-is_empty-clause-still c = λ h p met.
    let within : c.loop-at.at < length c.loop-at.self.buckets.items = search rules in
    filled_still (bucket h p) c.of-bucket.result (home c.loop-at.self.homes h) c.loop-at.at c.loop-at.self.buckets.items
    (no_number (get_or c.loop-at.self.buckets.items c.loop-at.at nothing) (ap is_empty (sym (get_or_default c.loop-at.self.buckets.items c.loop-at.at c.index.result.now nothing within) ∙ sym c.index.ensures) ∙ sym c.is_empty.ensures ∙ c.if-is_empty.true))
    (ap (λ a. leads a h p) c.loop-at.invariant.same ∙ met)

pub returns-clause-entered : goal.returns-clause-entered
returns-clause-entered c =
    let all : length c.loop-at.self.buckets.items ≤ c.loop-at.at = search rules in
    let low : home c.loop-at.self.homes c.args.hash ≤ length c.loop-at.self.buckets.items = search rules in
    rw (c.push_reserved.ensures.items, c.of-bucket.ensures)
    (more_met (bucket c.args.hash c.args.place) (home c.loop-at.self.homes c.args.hash) c.loop-at.self.buckets.items
    (λ none. absurd (omega arith)) low (λ k from to. c.loop-at.invariant.full k from (omega arith)))

pub returns-clause-still : goal.returns-clause-still
returns-clause-still c = λ h p met.
    rw c.push_reserved.ensures.items
    (more_still (bucket h p) c.of-bucket.result (home c.loop-at.self.homes h) c.loop-at.self.buckets.items
    (ap (λ a. leads a h p) c.loop-at.invariant.same ∙ met))
