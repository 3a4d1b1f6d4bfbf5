use Rattle.std.proofs.Common.{◌≡◌, subst, sym, List, length, ◌∙◌, arith}
use Rattle.std.specs.Prelude.{IfOk}
use Rattle.ra_ap_intern.specs.Symbols.{symbol_name}
use Rattle.syntax.specs.Lexeme.{Lexeme}
use Rattle.syntax.specs.Pieces.{Lay}
use Rattle.syntax.proofs.Spelled.{sides_of, keywords_of, written_called}
use Rattle.syntax.proofs.syntax.Syntax.spell.Goals as goal

pub returns-in_ok-vec-in-Some : goal.returns-in_ok-vec-in-Some
returns-in_ok-vec-in-Some c ts stand =
    let two : length c.args.parts.now ≡ 2 = omega arith in
    sides_of c.args.self.now.terms c.args.parts.now ts stand two _ c.in-Some.operator
    (symbol_name c.args.head.now) (sym c.of.ensures ∙ c.in-Some.is) c.mark.result
    c.mark-in-Some.result c.mark.ensures c.mark-in-Some.ensures c.in_ok-vec-in-Some.field-0.items
    c.in_ok-vec-in-Some.ensures.items

pub returns-in-None : goal.returns-in-None
returns-in-None c ts stand =
    let two : length c.args.parts.now ≡ 2 = omega arith in
    let P : List Lexeme → Type 0 = λ ls. IfOk c.spell_defined-in-None.result
    (λ pieces. Lay c.args.self.now.terms pieces.items ls) in
    subst P (sym (written_called c.args.self.now.terms c.args.parts.now ts stand
    (symbol_name c.args.head.now) (λ _. sym c.of.ensures ∙ c.in-None.is)
    (λ three. absurd (omega arith)))) (c.spell_defined-in-None.ensures ts stand)

pub returns-in_ok-vec-in-Some-keywords_of : goal.returns-in_ok-vec-in-Some-keywords_of
returns-in_ok-vec-in-Some-keywords_of c ts stand =
    let three : length c.args.parts.now ≡ 3 = omega arith in
    keywords_of c.args.self.now.terms c.args.parts.now ts stand three _
    c.in-Some-keywords_of.begin c.in-Some-keywords_of.middle c.in-Some-keywords_of.end
    (symbol_name c.args.head.now) (sym c.keywords_of.ensures ∙ c.in-Some-keywords_of.is)
    _ _ _ _ _ c.mark-in-Some-keywords_of.ensures c.mark-in-Some-keywords_of-2.ensures
    c.mark-in-Some-keywords_of-3.ensures c.mark-in-Some-keywords_of-4.ensures
    c.mark-in-Some-keywords_of-5.ensures c.in_ok-vec-in-Some-keywords_of.field-0.items
    c.in_ok-vec-in-Some-keywords_of.ensures.items

pub returns-in-None-keywords_of : goal.returns-in-None-keywords_of
returns-in-None-keywords_of c ts stand =
    let three : length c.args.parts.now ≡ 3 = omega arith in
    let P : List Lexeme → Type 0 = λ ls. IfOk c.spell_defined-in-None-keywords_of.result
    (λ pieces. Lay c.args.self.now.terms pieces.items ls) in
    subst P (sym (written_called c.args.self.now.terms c.args.parts.now ts stand
    (symbol_name c.args.head.now) (λ two. absurd (omega arith))
    (λ _. sym c.keywords_of.ensures ∙ c.in-None-keywords_of.is)))
    (c.spell_defined-in-None-keywords_of.ensures ts stand)

pub returns-in-empty : goal.returns-in-empty
returns-in-empty c ts stand =
    let P : List Lexeme → Type 0 = λ ls. IfOk c.spell_defined.result
    (λ pieces. Lay c.args.self.now.terms pieces.items ls) in
    subst P (sym (written_called c.args.self.now.terms c.args.parts.now ts stand
    (symbol_name c.args.head.now) (λ two. absurd (omega arith)) (λ three. absurd (omega arith))))
    (c.spell_defined.ensures ts stand)

pub returns-in-len4-up : goal.returns-in-len4-up
returns-in-len4-up c ts stand =
    let P : List Lexeme → Type 0 = λ ls. IfOk c.spell_defined-in-len4-up.result
    (λ pieces. Lay c.args.self.now.terms pieces.items ls) in
    subst P (sym (written_called c.args.self.now.terms c.args.parts.now ts stand
    (symbol_name c.args.head.now) (λ two. absurd (omega arith)) (λ three. absurd (omega arith))))
    (c.spell_defined-in-len4-up.ensures ts stand)
