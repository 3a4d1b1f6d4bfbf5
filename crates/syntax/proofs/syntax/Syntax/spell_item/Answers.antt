use Rattle.std.proofs.Common.{◌≡◌, ◌∙◌, ◌++◌, ◌∷◌, []}
use Rattle.ra_ap_intern.specs.Symbols.{symbol_name}
use Rattle.syntax.specs.Printing.{defined_tokens}
use Rattle.syntax.specs.declared.printer.Piece.TheVariants as piece
use Rattle.syntax.proofs.Spelled.{lay_spell, spelled_item, marked}
use Rattle.syntax.proofs.syntax.Syntax.spell_item.Goals as goal

pub returns : goal.returns
returns c t u first second =
    let keyword : c.in_ok-pieces.pieces.items ≡ marked c.keyword_of.result ∷ [] =
    c.in_ok-pieces.ensures.items ∙ (λ i. c.mark.ensures i ∷ []) in
    let defined : c.extend_from_slice.new.self.items
    ≡ marked c.keyword_of.result ∷ c.in_ok-name.name.items =
    c.in_ok-extend_from_slice.ensures.items ∙ (λ i. keyword i ++ c.as_slice.ensures.value i) in
    spelled_item c.args.self.now.terms c.in_ok-name.name.items c.args.value t u
    (lay_spell c.args.self.now.terms c.in_ok-name.name.items (defined_tokens t)
    (c.in_ok-name.ensures t first)) second
    (symbol_name c.args.head.now) c.keyword_of.result c.keyword_of.ensures
    c.extend_from_slice-2.new.self.items
    (c.in_ok-extend_from_slice-2.ensures.items ∙ (λ i. defined i
    ++ (c.mark-2.ensures i ∷ piece.Tree c.args.value ∷ c.mark-3.ensures i ∷ [])))
