use Rattle.std.proofs.Common.{subst, sym, ap, List, ◌∙◌, ◌++◌, ◌∷◌, []}
use Rattle.ra_ap_intern.specs.Symbols.{symbol_name}
use Rattle.syntax.specs.Lexeme.{Lexeme}
use Rattle.syntax.specs.Pieces.{Lay}
use Rattle.syntax.specs.Printing.{name_or_call}
use Rattle.syntax.specs.declared.printer.Piece.TheVariants as piece
use Rattle.syntax.specs.declared.token.Token.TheVariants as token
use Rattle.syntax.proofs.Spelled.{no_parts, first_part, spelled_atom, spelled_call}
use Rattle.syntax.proofs.syntax.Syntax.spell_defined.Goals as goal

pub returns-in_default : goal.returns-in_default
returns-in_default c ts stand =
    let s = c.args.self.now.terms in
    let head = symbol_name c.args.head.now in
    let items = c.in_ok-vec.field-0.items in
    let P : List (List Lexeme) → Type 0 = λ texts. Lay s items (name_or_call head texts) in
    subst P (sym (no_parts s c.args.parts.now ts c.in_default.ensures.cases stand))
    (spelled_atom s c.as_ref.result head c.as_ref.ensures items c.in_ok-vec.ensures.items)

pub returns : goal.returns
returns c ts stand =
    let s = c.args.self.now.terms in
    let head = symbol_name c.args.head.now in
    let items = c.push-3.new.self.items in
    let P : List (List Lexeme) → Type 0 = λ texts. Lay s items (name_or_call head texts) in
    first_part s c.args.parts.now c.in-Some.others.now c.in-Some.first.now ts
    c.in-Some.ensures.cases.0 stand P (λ t us first more.
    spelled_call s c.as_ref-2.result head c.as_ref-2.ensures c.in-Some.first.now
    c.in-Some.others.now t us first more items c.push.new.self.items c.push-2.new.self.items
    c.push_arguments.new.pieces.items
    (c.in_ok-push.ensures.items
    ∙ ap (λ xs. xs ++ piece.Token (token.Call c.as_ref-2.result) ∷ []) c.new-pieces.ensures.items)
    c.in_ok-push-2.ensures.items c.in_ok-push_arguments.ensures
    (c.in_ok-push-3.ensures.items
    ∙ ap (λ p. c.push_arguments.new.pieces.items ++ p ∷ []) c.mark.ensures))
