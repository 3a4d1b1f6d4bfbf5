-- Trees as tokens. Operators, `if` and `let` stand in parentheses.
use Rattle.std.specs.Prelude.{◌≡◌, ◌⊎◌, List, [], ◌∷◌, ◌++◌, Option, Some, None, if◌then◌else◌}
use Rattle.intern_terms.specs.Tree.{Tree, Trees, tree, no_more, one_more}
use Rattle.ra_ap_intern.specs.Symbols.{Named, same_named, symbol_name}
use Rattle.ra_ap_intern.specs.declared.symbol.symbols.TheConstants as sym
use Rattle.syntax.specs.Lexeme.{Lexeme, atom, call, between, mark, operator_of}
use Rattle.syntax.specs.declared.token.Mark.{Mark}
use Rattle.syntax.specs.declared.token.Mark.TheVariants.{Open, Close, Comma, If, Then, Else, Let, Equals, In, Fn, Semicolon}
use Rattle.syntax.specs.declared.token.Operator.{Operator}

-- the other arguments of a call, and its end
abbrev pub arguments : List (List Lexeme) → List Lexeme
arguments [] = mark Close ∷ []
arguments (a ∷ more) = mark Comma ∷ (a ++ arguments more)

abbrev pub called_with : Named → List Lexeme → List (List Lexeme) → List Lexeme
called_with head a more = call head ∷ (a ++ arguments more)

abbrev pub two_parts : Named → Option Operator → List Lexeme → List Lexeme → List Lexeme
two_parts head None a b = called_with head a (b ∷ [])
two_parts head (Some operator) a b =
    mark Open ∷ (a ++ (between operator ∷ (b ++ (mark Close ∷ []))))

abbrev pub conditional : List Lexeme → List Lexeme → List Lexeme → List Lexeme
conditional a b c = mark Open ∷ mark If ∷ (a ++ (mark Then ∷ (b ++ (mark Else ∷
    (c ++ (mark Close ∷ []))))))

abbrev pub local : List Lexeme → List Lexeme → List Lexeme → List Lexeme
local a b c = mark Open ∷ mark Let ∷ (a ++ (mark Equals ∷ (b ++ (mark In ∷
    (c ++ (mark Close ∷ []))))))

-- what stands before the three parts of `if` and of `let`
abbrev pub keywords : Named → Option (Mark × Mark × Mark)
keywords head =
    if same_named head (symbol_name sym.then) then Some (If, Then, Else)
    else if same_named head (symbol_name sym.let_) then Some (Let, Equals, In)
    else None

abbrev pub three_parts : Named → List Lexeme → List Lexeme → List Lexeme → List Lexeme
three_parts head a b c =
    if same_named head (symbol_name sym.then) then conditional a b c
    else if same_named head (symbol_name sym.let_) then local a b c
    else called_with head a (b ∷ c ∷ [])

-- the tokens of a tree, from its head and the tokens of its parts
abbrev pub written : Named → List (List Lexeme) → List Lexeme
written head [] = atom head ∷ []
written head (a ∷ []) = called_with head a []
written head (a ∷ b ∷ []) = two_parts head (operator_of head) a b
written head (a ∷ b ∷ c ∷ []) = three_parts head a b c
written head (a ∷ b ∷ c ∷ d ∷ more) = called_with head a (b ∷ c ∷ d ∷ more)

abbrev mutual
  pub tokens_of : Tree → List Lexeme
  tokens_of (tree head parts) = written head (tokens_of_each parts)

  pub tokens_of_each : Trees → List (List Lexeme)
  tokens_of_each no_more = []
  tokens_of_each (one_more t ts) = tokens_of t ∷ tokens_of_each ts

-- an item defines its first part as its second, by `fn` or `let`
abbrev pub IsItem : Tree → Type 0
IsItem (tree head (one_more t (one_more u no_more))) =
    (head ≡ symbol_name sym.fn_) ⊎ (head ≡ symbol_name sym.let_)
IsItem (tree head _) = ⊥

abbrev pub AreItems : Trees → Type 0
AreItems no_more = Unit {0}
AreItems (one_more t ts) = IsItem t × AreItems ts

abbrev pub item_mark : Named → Mark
item_mark head = if same_named head (symbol_name sym.fn_) then Fn else Let

abbrev pub definition : Named → List Lexeme → List Lexeme → List Lexeme
definition head a b =
    mark (item_mark head) ∷ (a ++ (mark Equals ∷ (b ++ (mark Semicolon ∷ []))))

-- what an item defines: a name, or a call of its head, which may be that of an operator
abbrev pub name_or_call : Named → List (List Lexeme) → List Lexeme
name_or_call head [] = atom head ∷ []
name_or_call head (a ∷ more) = called_with head a more

abbrev pub defined_tokens : Tree → List Lexeme
defined_tokens (tree head parts) = name_or_call head (tokens_of_each parts)

abbrev pub item_tokens : Tree → List Lexeme
item_tokens (tree head (one_more t (one_more u no_more))) =
    definition head (defined_tokens t) (tokens_of u)
item_tokens (tree head _) = []

-- the tokens of a program
abbrev pub program_tokens : Trees → List Lexeme
program_tokens no_more = []
program_tokens (one_more t ts) = item_tokens t ++ program_tokens ts
