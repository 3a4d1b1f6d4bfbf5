use Rattle.std.proofs.Common.{rules, inr, false, sym, subst}
use Rattle.std.specs.Cmp.Lexicographic.{nat_list_eq_equiv}
use Rattle.std.specs.Str.{bytes_eq}
use Rattle.ra_ap_intern.specs.Interning.{AsBefore}
use Rattle.ra_ap_intern.proofs.CallerLemmas.{interned_undone, undone_as_before}
use Rattle.use_refusals.proofs.handle_and_symbol.Goals as goal

pub returns-in-Err-clause-refused : goal.returns-in-Err-clause-refused
returns-in-Err-clause-refused c =
    let words = c.args.words.now in
    let word = c.args.word.now in
    let undone =
    interned_undone bytes_eq nat_list_eq_equiv words word false
    c.intern_text.new.self c.release-freed.new.storage _ c.in_ok-handle.ensures.state
    c.in_ok-handle.ensures.name c.release-freed.result c.in_ok-handle.handle
    c.release-freed.ensures.refused c.release-freed.ensures.state in
    inr (
      search (rules, c.in_ok-handle.ensures.refused),
      search (rules, c.in-Err.ensures.refused),
      undone,
      λ counted. subst (AsBefore words) (sym undone)
          (undone_as_before bytes_eq words c.number-number.ensures.state word counted),
    )
