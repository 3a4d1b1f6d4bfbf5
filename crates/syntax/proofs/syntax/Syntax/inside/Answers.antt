use Rattle.std.proofs.Common.{◌≡◌, ◌∙◌, eq-eqb, arith, length}
use Rattle.std.proofs.lemmas.Grind.{common_steps}
use Rattle.intern_terms.specs.Handle.{term_name}
use Rattle.ra_ap_intern.specs.Symbols.{symbol_name}
use Rattle.syntax.specs.Changes.{Alike}
use Rattle.syntax.proofs.Edits.{alike_terms, none_where}
use Rattle.syntax.proofs.syntax.Syntax.inside.Goals as goal
use Rattle.syntax.proofs.syntax.Syntax.inside.Goals.{then-eq, else-eq}

pub returns-clause-none : goal.returns-clause-none
returns-clause-none c t u old new =
    let parts : Alike t u → (symbol_name c.in_ok-head.head.now ≡ symbol_name c.in_ok-other.other.now)
    × (length c.in_ok-head.olds.now ≡ length c.in_ok-other.news.now) =
    alike_terms c.args.self.now.terms (term_name c.args.pair.old.tree)
    (term_name c.args.pair.new.tree) t u _ _ old new c.in_ok-head.ensures c.in_ok-other.ensures in
    none_where c.then_some.result c.if-eq.then_some _ (Alike t u) c.then_some.ensures (λ alike.
    let heads = (parts alike).0 in
    let lengths = (parts alike).1 in
    elim c.if-eq.branch [
      | then-eq w ↦ w.then_some-is ∙ eq-eqb _ _ lengths
      | else-eq w ↦ grind (arith, common_steps, c.symbols_are_what_they_name.ensures.equal)
    ])
