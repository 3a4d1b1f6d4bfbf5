-- Pieces of a print, and the tokens that they spell.
use Rattle.std.specs.Prelude.{◌≡◌, ℕ, ◌+◌, ◌*◌, ◌≤◌, List, [], ◌∷◌, ◌++◌, length, map, reverse}
use Rattle.std.specs.List.{flat_map}
use Rattle.intern_terms.specs.Handle.{term_name}
use Rattle.intern_terms.specs.Tree.{Tree, UnfoldsTo}
use Rattle.intern_terms.specs.declared.handle.TermRef.{TermRef}
use Rattle.syntax.specs.Lexeme.{Lexeme, lexeme}
use Rattle.syntax.specs.Parsing.{Store}
use Rattle.syntax.specs.Printing.{tokens_of}
use Rattle.syntax.specs.declared.printer.Piece.{Piece}
use Rattle.syntax.specs.declared.printer.Piece.TheVariants as piece
use Rattle.syntax.specs.declared.token.Mark.TheVariants.{Comma}
use Rattle.syntax.specs.declared.token.Token.{Token}
use Rattle.syntax.specs.declared.token.Token.TheVariants as token

-- pieces spell tokens, one by one
abbrev pub Spell : Store → List Piece → List Lexeme → Type 0
Spell s [] ls = ls ≡ []
Spell s (piece.Token token ∷ ps) ls =
    (more : List Lexeme) × (ls ≡ lexeme token ∷ more) × Spell s ps more
Spell s (piece.Tree term ∷ ps) ls = (t : Tree) × (more : List Lexeme)
    × UnfoldsTo s (term_name term) t × (ls ≡ tokens_of t ++ more) × Spell s ps more

-- so do these, which begin with a token
abbrev pub Lay : Store → List Piece → List Lexeme → Type 0
Lay s [] ls = ⊥
Lay s (piece.Token token ∷ ps) ls = Spell s (piece.Token token ∷ ps) ls
Lay s (piece.Tree term ∷ ps) ls = ⊥

-- how many of the pieces are tokens
abbrev pub tokens_among : List Piece → ℕ
tokens_among [] = 0
tokens_among (piece.Token token ∷ ps) = tokens_among ps + 1
tokens_among (piece.Tree term ∷ ps) = tokens_among ps

-- the other arguments of a call, each behind a comma
abbrev pub comma_pieces : List TermRef → List Piece
comma_pieces = flat_map (λ term. piece.Token (token.Mark Comma) ∷ piece.Tree term ∷ [])

-- after so many pieces: what was printed, and the pieces on the stack, the last on top, spell these
-- tokens; each token takes a piece, and so does a tree, which has a token of its own
pub record Prints (s : Store) (taken : ℕ) (tokens : List Token) (pieces : List Piece)
    (spelled : List Lexeme) : Type 0
  where
    pub more : List Lexeme
    pub whole : map lexeme tokens ++ more ≡ spelled
    pub spell : Spell s (reverse pieces) more
    pub within : taken + 2 * length more ≤ 2 * length spelled + tokens_among (reverse pieces)
