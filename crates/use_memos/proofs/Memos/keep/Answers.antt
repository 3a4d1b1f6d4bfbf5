use Rattle.std.proofs.Common.{◌≡◌, is_some, ap, sym, subst, ◌∙◌, rules}
use Rattle.std.proofs.Props.{props}
use Rattle.std.proofs.lemmas.Map.Made.{filter_same_pairs}
use Rattle.std.specs.HashMap.{HashMap}
use Rattle.ra_ap_intern.specs.Handle.{ref_name}
use Rattle.ra_ap_intern.specs.Names.{has}
use Rattle.ra_ap_intern.specs.State.{State, reads}
use Rattle.ra_ap_intern.specs.Under.{Covers}
use Rattle.ra_ap_intern.specs.declared.storage.Ref.{Ref}
use Rattle.ra_ap_intern.proofs.CallerLemmas.{covers_retained, kept_was_read, names_retained, on_err, value_retained}
use Rattle.use_memos.proofs.Memos.keep.Goals as goal

-- a map is covered in one way
one_fact : {T K V S : Type 0} (s : State T) (map : HashMap (Ref K) V S) → IsProp (Covers s map)
one_fact s map = hlevel props

pub returns-clause-notes : goal.returns-clause-notes
returns-clause-notes g c =
    let kept = c.in_ok-collected.ensures.ok in
    let old = c.args.self.now.arguments in
    let new = c.collect_from.new.family in
    value_retained g.T.PartialEq.eq g.met.T.Eq.laws old new c.number-number.ensures.state
    (λ n u read.
    (kept_was_read old (has kept.0) n u (ap (λ s. reads s n) (sym kept.2) ∙ read)).1)
    c.args.self.now.results c.retain.new.self
    (names_retained (λ n. is_some (reads new n)) c.args.self.now.results c.retain.new.self
    (filter_same_pairs _ (λ e. is_some (reads new (ref_name e.0))) _ (λ k v b w f' t. search rules)
    _ _ c.retain.ensures.filtered))

pub returns-in_err-collected-clause-err : goal.returns-in_err-collected-clause-err
returns-in_err-collected-clause-err g c =
    let memos = c.args.self.now in
    on_err c.from_residual.result
    (subst (λ s. (covered : Covers s memos.results)
    → record memos { arguments = s; covered = covered } ≡ memos) (sym c.in_err-collected.ensures.err)
    (λ covered. λ i. record memos { covered = one_fact memos.arguments memos.results covered memos.covered i }) _)

pub invariant_of-self-2 : goal.invariant_of-self-2
invariant_of-self-2 g c =
    let old = c.args.self.now.results in
    let new = c.collect_from.new.family in
    record {
      covered = covers_retained new old c.retain.new.self
          (names_retained (λ n. is_some (reads new n)) old c.retain.new.self
          (filter_same_pairs _ (λ e. is_some (reads new (ref_name e.0))) _ (λ k v b w f' t. search rules)
          _ _ c.retain.ensures.filtered));
    }
