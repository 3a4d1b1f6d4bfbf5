-- The parser as a machine over trees: what each token makes of what was read.
use Rattle.std.specs.Prelude.{ℕ, ◌==◌, Bool, true, false, nat_le, List, [], ◌∷◌, Option, Some, None, if◌then◌else◌, option_and_then, ◌&&◌}
use Rattle.intern_terms.specs.Tree.{Tree, Trees, tree, no_more, one_more, count}
use Rattle.ra_ap_intern.specs.Symbols.{Named, symbol_name}
use Rattle.ra_ap_intern.specs.declared.symbol.symbols.TheConstants as sym
use Rattle.syntax.specs.Lexeme.{Lexeme, atom, call, between, mark, operator_head, precedence}
use Rattle.syntax.specs.declared.token.Mark.{Mark}
use Rattle.syntax.specs.declared.token.Mark.TheVariants.{Open, Close, Comma, If, Then, Else, Let, Equals, In, Fn, Semicolon}
use Rattle.syntax.specs.declared.token.Operator.{Operator}

-- what an open form will be
pub data Shape : Type 0 where
  group : Shape
  called : Named → Shape
  sides : Operator → Shape
  choice : Shape
  binding : Shape
  definition : Shape

-- a form of which these parts were read
pub record Unclosed : Type 0 where
  pub shape : Shape
  pub parts : Trees

-- what was read of a program: its items, the open forms, the innermost first, and the expression
-- before the next token
pub record Reading : Type 0 where
  pub items : Trees
  pub opens : List Unclosed
  pub value : Option Tree

-- with a tree behind the others
abbrev pub with_last : Trees → Tree → Trees
with_last no_more t = one_more t no_more
with_last (one_more u us) t = one_more u (with_last us t)

abbrev pub is_nil : List Unclosed → Bool
is_nil [] = true
is_nil (o ∷ os) = false

-- the form that a token opens, between items or in one
abbrev pub opened_in_item : Lexeme → Option Shape
opened_in_item (atom name) = None
opened_in_item (call name) = Some (called name)
opened_in_item (between operator) = None
opened_in_item (mark Open) = Some group
opened_in_item (mark If) = Some choice
opened_in_item (mark Let) = Some binding
opened_in_item (mark _) = None

abbrev pub opened_between : Lexeme → Option Shape
opened_between (atom name) = None
opened_between (call name) = None
opened_between (between operator) = None
opened_between (mark Let) = Some binding
opened_between (mark Fn) = Some definition
opened_between (mark _) = None

abbrev pub opened : Lexeme → Bool → Option Shape
opened l true = opened_in_item l
opened l false = opened_between l

-- whether another part follows behind a mark, and so many parts and one more
abbrev pub separates : Shape → ℕ → Mark → Bool
separates (called name) n Comma = true
separates choice n Then = n == 0
separates choice n Else = n == 1
separates binding n Equals = n == 0
separates binding n In = n == 1
separates definition n Equals = n == 0
separates _ n _ = false

-- whether a mark closes a form, and a whole item
abbrev pub closes : Shape → Mark → Bool
closes group Close = true
closes (called name) Close = true
closes _ _ = false

abbrev pub closes_item : Shape → ℕ → Mark → Bool
closes_item binding n Semicolon = n == 1
closes_item definition n Semicolon = n == 1
closes_item _ n _ = false

-- whether a form ends with its next part, before an operator or a mark
abbrev pub yields : Shape → ℕ → Option Operator → Bool
yields (sides operator) n None = true
yields (sides operator) n (Some next) = nat_le (precedence next) (precedence operator)
yields choice n None = n == 2
yields binding n None = n == 2
yields _ n _ = false

-- the head of a form's trees; a group has none
abbrev pub head_of : Shape → Option Named
head_of group = None
head_of (called name) = Some name
head_of (sides operator) = Some (operator_head operator)
head_of choice = Some (symbol_name sym.then)
head_of binding = Some (symbol_name sym.let_)
head_of definition = Some (symbol_name sym.fn_)

abbrev pub headed : Option Named → Trees → Tree → Tree
headed None ts t = t
headed (Some head) ts t = tree head (with_last ts t)

-- the tree of a form with its last part
abbrev pub completed : Unclosed → Tree → Tree
completed o t = headed (head_of o.shape) o.parts t

-- the forms that are left, and the expression, once each form has ended that yields
abbrev pub reduced : Option Operator → List Unclosed → Tree → List Unclosed × Tree
reduced next [] t = ([], t)
reduced next (o ∷ os) t = if yields o.shape (count o.parts) next
    then reduced next os (completed o t) else (o ∷ os, t)

abbrev pub opening : Shape → Unclosed
opening shape = record { shape = shape; parts = no_more }

abbrev pub with_opened : Trees → List Unclosed → Option Shape → Option Reading
with_opened items os None = None
with_opened items os (Some shape) = Some (record { items = items; opens = opening shape ∷ os; value = None })

-- what a token makes of it where an expression or an item begins
abbrev pub begun : Trees → List Unclosed → Lexeme → Option Reading
begun items [] l = with_opened items [] (opened_between l)
begun items (o ∷ os) (atom name) =
    Some (record { items = items; opens = o ∷ os; value = Some (tree name no_more) })
begun items (o ∷ os) l = with_opened items (o ∷ os) (opened_in_item l)

-- what a mark makes of it behind the last part so far of the innermost form
abbrev pub marked : Trees → List Unclosed → Tree → Mark → Option Reading
marked items [] t m = None
marked items (o ∷ os) t m =
    if separates o.shape (count o.parts) m then Some (record {
      items = items;
      opens = record { shape = o.shape; parts = with_last o.parts t } ∷ os;
      value = None;
    })
    else if closes o.shape m
    then Some (record { items = items; opens = os; value = Some (completed o t) })
    else if closes_item o.shape (count o.parts) m && is_nil os
    then Some (record { items = with_last items (completed o t); opens = os; value = None })
    else None

abbrev pub between_sides : Trees → Operator → List Unclosed × Tree → Option Reading
between_sides items operator r = Some (record {
  items = items;
  opens = record { shape = sides operator; parts = one_more r.1 no_more } ∷ r.0;
  value = None;
})

-- what a token makes of it behind an expression
abbrev pub gone_on : Trees → List Unclosed → Tree → Lexeme → Option Reading
gone_on items os t (atom name) = None
gone_on items os t (call name) = None
gone_on items os t (between operator) = between_sides items operator (reduced (Some operator) os t)
gone_on items os t (mark m) = let r = reduced None os t in marked items r.0 r.1 m

-- what a token makes of a reading, if it can stand there
abbrev pub stepped : Trees → List Unclosed → Option Tree → Lexeme → Option Reading
stepped items os None l = begun items os l
stepped items os (Some t) l = gone_on items os t l

abbrev pub step : Reading → Lexeme → Option Reading
step r l = stepped r.items r.opens r.value l

-- what tokens make of a reading, one after another
abbrev pub run : Reading → List Lexeme → Option Reading
run r [] = Some r
run r (l ∷ ls) = option_and_then (λ next. run next ls) (step r l)

abbrev pub start : Reading
start = record { items = no_more; opens = []; value = None }

-- a reading of whole items
abbrev pub whole_items : Trees → List Unclosed → Option Tree → Option Trees
whole_items items [] None = Some items
whole_items items [] (Some t) = None
whole_items items (o ∷ os) value = None

-- the program that tokens are, if they are one
abbrev pub program : List Lexeme → Option Trees
program ls = option_and_then (λ r. whole_items r.items r.opens r.value) (run start ls)
