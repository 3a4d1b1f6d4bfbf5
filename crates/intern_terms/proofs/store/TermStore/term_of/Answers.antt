use Rattle.std.proofs.Common.{rules, refl, ap, sym, ◌∙◌}
use Rattle.ra_ap_intern.specs.Slices.{is_new_slice}
use Rattle.ra_ap_intern.specs.State.{counted_up, full}
use Rattle.ra_ap_intern.specs.Symbols.{at_entry, due_of, symbol_name}
use Rattle.ra_ap_intern.specs.declared.symbol.Symbol.{Symbol as Head}
use Rattle.intern_terms.specs.Store.{due_term, same_node}
use Rattle.intern_terms.proofs.Heads.{passed_head, counted_head}
use Rattle.intern_terms.proofs.store.TermStore.term_of.Goals as goal

pub returns-in_err-owner-clause-owned : goal.returns-in_err-owner-clause-owned
returns-in_err-owner-clause-owned g c =
    let owner : Head = record { 0 = c.args.head.0 } in (
      owner,
      refl,
      search (rules, c.from_residual.ensures),
      search (rules, c.from_residual.ensures, c.in_err-owner.ensures.refused),
      search (rules, c.from_residual.ensures),
      search (rules, c.from_residual.ensures, c.in_err-owner.ensures.state),
    )

pub returns-clause-owned : goal.returns-clause-owned
returns-clause-owned g c =
    let heads = c.args.heads.now in
    let owner = c.in_ok-owner.owner in
    let same = c.in_ok-owner.ensures.ok in
    let free = ap (λ n. due_of heads n (full heads.top)) same ∙ c.in_ok-owner.ensures.refused in
    let counted = c.in_ok-owner.ensures.state ∙ ap (at_entry counted_up heads) (sym same) in (
      owner,
      same,
      c.term_or_give_up.ensures.name,
      passed_head c.term_or_give_up.result _ (due_term c.args.self.now owner c.args.args.now)
          (is_new_slice same_node c.args.self.now owner c.args.args.now) free
          c.term_or_give_up.ensures.refused,
      c.term_or_give_up.ensures.state,
      counted_head c.term_or_give_up.result
          (is_new_slice same_node c.args.self.now owner c.args.args.now) heads
          c.to_owned.new.table c.term_or_give_up.new.heads (symbol_name owner)
          c.number-number.ensures.table free counted c.term_or_give_up.ensures.heads,
    )
