-- Tokens, and what operators are called.
use Rattle.std.specs.Prelude.{ℕ, List, [], ◌∷◌, Option, find, map as list_map}
use Rattle.ra_ap_intern.specs.Symbols.{Named, same_named, symbol_name, symbol_ref_name}
use Rattle.ra_ap_intern.specs.declared.symbol.symbols.TheConstants as sym
use Rattle.syntax.specs.declared.token.Mark.{Mark}
use Rattle.syntax.specs.declared.token.Operator.{Operator}
use Rattle.syntax.specs.declared.token.Operator.TheVariants.{Add, Subtract, Multiply, Divide, Less, Equal}
use Rattle.syntax.specs.declared.token.PlacedToken.{PlacedToken}
use Rattle.syntax.specs.declared.token.Token.{Token}
use Rattle.syntax.specs.declared.token.Token.TheVariants as token

-- a token by the names in it
pub data Lexeme : Type 0 where
  atom : Named → Lexeme
  call : Named → Lexeme
  between : Operator → Lexeme
  mark : Mark → Lexeme

abbrev pub lexeme : Token → Lexeme
lexeme (token.Atom name) = atom (symbol_ref_name name)
lexeme (token.Call name) = call (symbol_ref_name name)
lexeme (token.Infix operator) = between operator
lexeme (token.Mark m) = mark m

abbrev pub lexemes : List PlacedToken → List Lexeme
lexemes = list_map (λ placed. lexeme placed.token)

-- the head of an operator's terms
abbrev pub operator_head : Operator → Named
operator_head Add = symbol_name sym.add
operator_head Subtract = symbol_name sym.sub
operator_head Multiply = symbol_name sym.mul
operator_head Divide = symbol_name sym.div
operator_head Less = symbol_name sym.lt
operator_head Equal = symbol_name sym.eq

abbrev pub operators : List Operator
operators = Add ∷ Subtract ∷ Multiply ∷ Divide ∷ Less ∷ Equal ∷ []

-- the operator of a head, if it is one
abbrev pub operator_of : Named → Option Operator
operator_of head = find (λ operator. same_named (operator_head operator) head) operators

-- how tightly an operator binds
abbrev pub precedence : Operator → ℕ
precedence Equal = 1
precedence Less = 1
precedence Add = 2
precedence Subtract = 2
precedence Multiply = 3
precedence Divide = 3
