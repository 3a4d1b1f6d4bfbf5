use Rattle.std.proofs.Common.{ap}
use Rattle.std.specs.Option.{option_map}
use Rattle.std.specs.Prelude.{IfOk}
use Rattle.intern_terms.specs.Handle.{term_name}
use Rattle.intern_terms.proofs.CallerTerms.{unread}
use Rattle.syntax.specs.Pieces.{Lay}
use Rattle.syntax.proofs.Spelled.{defined_tree}
use Rattle.syntax.proofs.syntax.Syntax.defined_layout.Goals as goal

pub returns-in-Some : goal.returns-in-Some
returns-in-Some c t stands =
    defined_tree c.args.self.now.terms (term_name c.args.defined) t c.in-Some.head.now
    c.in-Some.parts.now (ap (option_map (λ v. v.header)) c.in-Some.ensures)
    (ap (option_map (λ v. v.items)) c.in-Some.ensures) stands
    (λ ls. IfOk c.spell_defined.result (λ pieces. Lay c.args.self.now.terms pieces.items ls))
    c.spell_defined.ensures

pub returns-in-None : goal.returns-in-None
returns-in-None c t stands =
    absurd (unread c.args.self.now.terms (term_name c.args.defined) (λ v. v.header) t
    (ap (option_map (λ v. v.header)) c.in-None.ensures) stands)
