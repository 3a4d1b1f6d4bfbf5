use Rattle.std.proofs.Common.{sym, ap, arith, ◌∙◌}
use Rattle.std.proofs.lemmas.Option.{same_Some}
use Rattle.ra_ap_intern.specs.Handle.{ref_name}
use Rattle.ra_ap_intern.specs.State.{reads}
use Rattle.ra_ap_intern.proofs.CallerLemmas.{found_reads, none_found, read_found}
use Rattle.use_lookups.proofs.find.Goals as goal

pub returns-in_err-get-clause-none : goal.returns-in_err-get-clause-none
returns-in_err-get-clause-none g c =
    rw c.from_residual.ensures (none_found g.T.PartialEq.eq c.args.storage.now c.args.value.now (sym c.in_err-get.ensures))

pub returns-clause-found : goal.returns-clause-found
returns-clause-found g c =
    let r = found_reads g.T.PartialEq.eq c.args.storage.now c.args.value.now (ref_name c.in_ok-get.field-0) (sym c.in_ok-get.ensures) in
    grind (arith, c.get-2.ensures, r.1, r.2)

pub returns-clause-none : goal.returns-clause-none
returns-clause-none g c =
    let r = found_reads g.T.PartialEq.eq c.args.storage.now c.args.value.now (ref_name c.in_ok-get.field-0) (sym c.in_ok-get.ensures) in
    grind (arith, c.get-2.ensures, r.1)

pub returns-in_err-get-clause-read : goal.returns-in_err-get-clause-read
returns-in_err-get-clause-read g c n w read same =
    let found = read_found g.T.PartialEq.eq g.met.T.Eq.laws c.args.storage.now c.number-number.ensures.state c.args.value.now n w read same in
    let none = c.in_err-get.ensures in absurd (cc)

pub returns-clause-read : goal.returns-clause-read
returns-clause-read g c n w read same =
    let found = read_found g.T.PartialEq.eq g.met.T.Eq.laws c.args.storage.now c.number-number.ensures.state c.args.value.now n w read same in
    c.get-2.ensures ∙ ap (reads c.args.storage.now) (same_Some _ _ (c.in_ok-get.ensures ∙ found)) ∙ read
