use Rattle.std.proofs.Common.{◌∙◌, Some, ap}
use Rattle.std.proofs.lemmas.Option.{slice_get_within}
use Rattle.types.proofs.Founded.{level_set}
use Rattle.types.proofs.Unifying.{lent, nothing_set}
use Rattle.types.proofs.unknowns.Unknowns.lower.Goals as goal

pub returns-in-Nothing-clause-open : goal.returns-in-Nothing-clause-open
returns-in-Nothing-clause-open c n h = nothing_set c.min.result c.args.self.now.known.items c.args.number n h.0 h.1

pub returns-in-Nothing-clause-known : goal.returns-in-Nothing-clause-known
returns-in-Nothing-clause-known c =
    let read = lent c.args.self.now.known.items c.args.number _ c.in-Some.ensures.item.3.0 c.in-Some.ensures.value in
    level_set c.min.result c.args.self.now.known.items c.args.number c.in-Nothing.level (read ∙ ap Some c.in-Nothing.is)

pub returns-in_default-known-clause-nothing : goal.returns-in_default-known-clause-nothing
returns-in_default-known-clause-nothing c = (
  λ no. absurd (cc),
  λ nothing.
      let read = lent c.args.self.now.known.items c.args.number _ c.in-Some.ensures.item.3.0 c.in-Some.ensures.value in
      let is = c.in_default-known.is in
      let at = nothing.1 in
      absurd (cc),
)

pub returns-in_default-known-clause-lowered : goal.returns-in_default-known-clause-lowered
returns-in_default-known-clause-lowered c level at =
    let read = lent c.args.self.now.known.items c.args.number _ c.in-Some.ensures.item.3.0 c.in-Some.ensures.value in
    let is = c.in_default-known.is in
    absurd (cc)

pub returns-in_default-clause-nothing : goal.returns-in_default-clause-nothing
returns-in_default-clause-nothing c = (
  λ no. absurd (cc),
  λ nothing.
      let at = nothing.1 in
      let none = c.in_default.ensures.item.2 (slice_get_within c.args.self.now.known.items c.args.number _ at) in
      absurd (cc),
)

pub returns-in_default-clause-lowered : goal.returns-in_default-clause-lowered
returns-in_default-clause-lowered c level at =
    let none = c.in_default.ensures.item.2 (slice_get_within c.args.self.now.known.items c.args.number _ at) in
    absurd (cc)
