use Rattle.std.proofs.Common.{Some, IsSome, cond, sym, subst, ◌∙◌, arith}
use Rattle.ra_ap_intern.specs.State.{interned, reads}
use Rattle.ra_ap_intern.proofs.CallerLemmas.{covers_alike, covers_on, covers_put, interned_is_read, interned_reads_on, on_err, on_ok_of, state_interned, value_put, values_alike}
use Rattle.use_memos.proofs.Memos.note.Goals as goal

pub invariant_of-self-in-Break-branch-2 : goal.invariant_of-self-in-Break-branch-2
invariant_of-self-in-Break-branch-2 g c =
    let memos = c.args.self.now in
    record {
      covered = rw c.in_err-handle.ensures.state
          (covers_alike _ c.references_are_names.ensures.equal memos.arguments memos.results
          c.reserve.new.self c.reserve.ensures.entries.2 memos.covered);
    }

pub invariant_of-self-2 : goal.invariant_of-self-2
invariant_of-self-2 g c =
    let eq = g.T.PartialEq.eq in
    let memos = c.args.self.now in
    let old = memos.arguments in
    let next = (interned eq old c.args.argument).state in
    let alike = c.references_are_names.ensures.equal in
    let results = c.reserve.new.self in
    let covered = covers_alike _ alike old memos.results results c.reserve.ensures.entries.2 memos.covered in
    let puts = on_ok_of c.insert-stored.result c.insert-stored.ensures.updates
    (c.insert-stored.ensures.succeeds (omega (arith, c.in_ok-reserve.ensures.ok))) in
    record {
      covered = rw c.in_ok-handle.ensures.state
          (covers_put _ alike next results c.insert-stored.new.self c.in_ok-handle.handle
          (Some c.args.value) puts.0
          (subst (λ n. IsSome (reads next n)) (sym c.in_ok-handle.ensures.name)
          (interned_is_read eq g.met.T.Eq.laws old c.args.argument))
          (covers_on old next results
          (interned_reads_on eq old c.number-number.ensures.state c.args.argument) covered));
    }

pub returns-in_err-handle-clause-stays : goal.returns-in_err-handle-clause-stays
returns-in_err-handle-clause-stays g c =
    on_err c.from_residual-in_err-handle.result (rw c.in_err-handle.ensures.state
    (values_alike g.T.PartialEq.eq _ c.references_are_names.ensures.equal c.args.self.now.arguments
    c.args.self.now.results c.reserve.new.self c.reserve.ensures.entries.2))

pub returns-clause-notes : goal.returns-clause-notes
returns-clause-notes g c =
    let puts = rw c.unwrap.ensures at c.insert-stored.ensures.updates in
    let eq = g.T.PartialEq.eq in
    let laws = g.met.T.Eq.laws in
    let alike = c.references_are_names.ensures.equal in
    let arguments = c.args.self.now.arguments in
    let ok = c.number-number.ensures.state in
    let due = c.in_ok-handle.ensures.refused in
    rw c.in_ok-handle.ensures.state
    (λ other.
    value_put eq laws _ alike arguments c.args.argument ok
    (state_interned eq laws arguments c.args.argument ok due) c.in_ok-handle.handle
    c.in_ok-handle.ensures.name
    c.reserve.new.self c.insert-stored.new.self (Some c.args.value) puts.0 other
    ∙ (λ i. cond (eq c.args.argument other) (Some c.args.value)
    (values_alike eq _ alike arguments c.args.self.now.results c.reserve.new.self
    c.reserve.ensures.entries.2 other i)))
