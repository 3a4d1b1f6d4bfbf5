use Rattle.std.proofs.lemmas.Option.{slice_get_within}
use Rattle.types.proofs.Founded.{is_known_set}
use Rattle.types.proofs.Unifying.{is_set}
use Rattle.types.proofs.unknowns.Unknowns.bind.Goals as goal

pub returns-in-Some-clause-free : goal.returns-in-Some-clause-free
returns-in-Some-clause-free c n free =
    is_set c.args.handle c.args.self.now.known.items c.args.number n
    (slice_get_within c.args.self.now.known.items c.args.number _ c.requires.1) free

pub returns-in_default-clause-binds : goal.returns-in_default-clause-binds
returns-in_default-clause-binds c =
    let lt = slice_get_within c.args.self.now.known.items c.args.number _ c.requires.1 in
    let none = c.in_default.ensures.item.2 lt in
    absurd (cc)

pub returns-in_default-clause-free : goal.returns-in_default-clause-free
returns-in_default-clause-free c =
    let lt = slice_get_within c.args.self.now.known.items c.args.number _ c.requires.1 in
    let none = c.in_default.ensures.item.2 lt in
    absurd (cc)

pub returns-in_default-clause-known : goal.returns-in_default-clause-known
returns-in_default-clause-known c =
    let lt = slice_get_within c.args.self.now.known.items c.args.number _ c.requires.1 in
    let none = c.in_default.ensures.item.2 lt in
    absurd (cc)

pub returns-in-Some-clause-known : goal.returns-in-Some-clause-known
returns-in-Some-clause-known c = is_known_set c.args.handle c.args.self.now.known.items c.args.number
