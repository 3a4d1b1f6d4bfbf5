use Rattle.std.proofs.Common.{ap, refl, sym, ◌∙◌}
use Rattle.std.specs.Option.{option_map}
use Rattle.intern_terms.specs.Handle.{term_name}
use Rattle.ra_ap_intern.specs.Symbols.{symbol_ref_name}
use Rattle.syntax.proofs.Reading.{completed_term}
use Rattle.syntax.proofs.syntax.Syntax.complete.Goals as goal

pub returns-clause-completed : goal.returns-clause-completed
returns-clause-completed c = λ o t is unfolds.
    let terms = c.args.self.now.terms in
    completed_term terms terms c.term_of.new.self refl c.args.frame o
    (symbol_ref_name c.in-Some.head) c.args.value c.as_slice.result.now
    (c.as_slice.ensures.value ∙ c.in_ok-push.ensures.items)
    (term_name c.in_ok-term_of.field-0) t
    (ap (option_map symbol_ref_name) (sym c.in-Some.is) ∙ c.head.ensures)
    c.in_ok-term_of.ensures.tree is unfolds
