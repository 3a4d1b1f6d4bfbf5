use Rattle.std.proofs.Common.{refl}
use Rattle.ra_ap_intern.specs.Handle.{ref_name}
use Rattle.types.proofs.Founded.{are_swapped}
use Rattle.types.proofs.Unifying.{binds_first, binds_second, never_first, never_second, same_error}
use Rattle.types.proofs.unify.bind_one.Goals as goal

pub returns-then-gives_way-clause-bound : goal.returns-then-gives_way-clause-bound
returns-then-gives_way-clause-bound c =
    binds_second c.args.types.now c.args.unknowns.now c.bind.new.unknowns c.in-Some.other (ref_name c.args.second)
    (ref_name c.args.first) c.in-Some.ensures.number c.in_ok-bind.ensures.binds

pub returns-in_err-bind-clause-refused : goal.returns-in_err-bind-clause-refused
returns-in_err-bind-clause-refused c =
    same_error _ _ _ c.from_residual.ensures.1 (λ conflict. never_second c.args.types.now c.args.unknowns.now
    c.in-Some.other (ref_name c.args.second) (ref_name c.args.first) c.in-Some.ensures.number
    (c.in_err-bind.ensures.refused conflict))

pub returns-in-Some-number-clause-bound : goal.returns-in-Some-number-clause-bound
returns-in-Some-number-clause-bound c =
    binds_first c.args.types.now c.args.unknowns.now c.bind-in-Some-number.new.unknowns c.in-Some-number.number
    (ref_name c.args.first) (ref_name c.args.second) c.in-Some-number.ensures.number c.in_ok-bind-2.ensures.binds

pub returns-in_err-bind-2-clause-refused : goal.returns-in_err-bind-2-clause-refused
returns-in_err-bind-2-clause-refused c =
    same_error _ _ _ c.from_residual-in_err-bind-2.ensures.1 (λ conflict. never_first c.args.types.now
    c.args.unknowns.now c.in-Some-number.number (ref_name c.args.first) (ref_name c.args.second)
    c.in-Some-number.ensures.number (c.in_err-bind-2.ensures.refused conflict))

pub returns-then-gives_way-clause-founded : goal.returns-then-gives_way-clause-founded
returns-then-gives_way-clause-founded c are = c.in_ok-bind.ensures.founded (are_swapped _ _ _ _ are)

pub returns-in-Some-number-clause-founded : goal.returns-in-Some-number-clause-founded
returns-in-Some-number-clause-founded c are = c.in_ok-bind-2.ensures.founded are

pub returns-clause-founded : goal.returns-clause-founded
returns-clause-founded c are = (are.over.founded, refl)

pub returns-in_err-bind-clause-why : goal.returns-in_err-bind-clause-why
returns-in_err-bind-clause-why c are =
    same_error _ _ _ c.from_residual.ensures.1 (c.in_err-bind.ensures.why (are_swapped _ _ _ _ are))

pub returns-in_err-bind-2-clause-why : goal.returns-in_err-bind-2-clause-why
returns-in_err-bind-2-clause-why c are =
    same_error _ _ _ c.from_residual-in_err-bind-2.ensures.1 (c.in_err-bind-2.ensures.why are)
