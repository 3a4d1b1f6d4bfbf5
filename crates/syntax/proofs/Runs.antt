-- Runs of the machine.
use Rattle.std.proofs.Common.{◌≡◌, List, [], ◌∷◌, ◌++◌, Some, None, refl, sym, ap, ◌∙◌, append_assoc}
use Rattle.intern_terms.specs.Tree.{Tree, Trees, tree, no_more, one_more}
use Rattle.ra_ap_intern.specs.Symbols.{Named, symbol_name}
use Rattle.ra_ap_intern.specs.declared.symbol.symbols.TheConstants as constant
use Rattle.syntax.specs.Lexeme.{Lexeme, between, mark, operator_head}
use Rattle.syntax.specs.Machine.{Shape, group, called, sides, choice, binding, Unclosed, Reading, with_last, run}
use Rattle.syntax.specs.Printing.{arguments, called_with, conditional, local}
use Rattle.syntax.specs.declared.token.Operator.{Operator}
use Rattle.syntax.specs.declared.token.Mark.TheVariants.{Open, Close, Then, Else, Equals, In}
use Rattle.intern_terms.proofs.CallerTerms.{joined}

-- within an item, before an expression and behind it
abbrev pub before : Trees → Unclosed → List Unclosed → Reading
before items o os = record { items = items; opens = o ∷ os; value = None }

abbrev pub behind : Trees → Unclosed → List Unclosed → Tree → Reading
behind items o os t = record { items = items; opens = o ∷ os; value = Some t }

-- tokens are read as a tree, whatever is open and whatever follows
abbrev pub AreRead : List Lexeme → Tree → Type 0
AreRead ls t = (items : Trees) (o : Unclosed) (os : List Unclosed) (rest : List Lexeme)
    → run (before items o os) (ls ++ rest) ≡ run (behind items o os t) rest

abbrev pub EachRead : List (List Lexeme) → Trees → Type 0
EachRead [] no_more = Unit {0}
EachRead [] (one_more t ts) = ⊥
EachRead (a ∷ more) no_more = ⊥
EachRead (a ∷ more) (one_more t ts) = AreRead a t × EachRead more ts

pub joined_last : (ts : Trees) (t : Tree) (us : Trees)
    → joined (with_last ts t) us ≡ joined ts (one_more t us)
joined_last no_more t us = refl
joined_last (one_more u ts) t us = ap (one_more u) (joined_last ts t us)

pub joined_none : (ts : Trees) → joined ts no_more ≡ ts
joined_none no_more = refl
joined_none (one_more t ts) = ap (one_more t) (joined_none ts)

abbrev pub frame : Shape → Trees → Unclosed
frame shape ts = record { shape = shape; parts = ts }

-- tokens of a part, and what follows
pub then_rest : (a : List Lexeme) (t : Tree) → AreRead a t → (items : Trees) (o : Unclosed)
    (os : List Unclosed) (more rest : List Lexeme)
    → run (before items o os) ((a ++ more) ++ rest) ≡ run (behind items o os t) (more ++ rest)
then_rest a t is items o os more rest =
    ap (run (before items o os)) (append_assoc a more rest) ∙ is items o os (more ++ rest)

-- the other arguments of a call, behind one
arguments_read : (head : Named) (more : List (List Lexeme)) (ts : Trees) → EachRead more ts
    → (parts : Trees) (t : Tree) (items : Trees) (o : Unclosed) (os : List Unclosed)
    (rest : List Lexeme)
    → run (behind items (frame (called head) parts) (o ∷ os) t) (arguments more ++ rest)
    ≡ run (behind items o os (tree head (joined (with_last parts t) ts))) rest
arguments_read head [] no_more each parts t items o os rest =
    ap (λ ts. run (behind items o os (tree head ts)) rest) (sym (joined_none (with_last parts t)))
arguments_read head [] (one_more u us) each parts t items o os rest = absurd each
arguments_read head (a ∷ more) no_more each parts t items o os rest = absurd each
arguments_read head (a ∷ more) (one_more u us) each parts t items o os rest =
    then_rest a u each.0 items (frame (called head) (with_last parts t)) (o ∷ os)
    (arguments more) rest
    ∙ arguments_read head more us each.1 (with_last parts t) u items o os rest
    ∙ ap (λ ts. run (behind items o os (tree head ts)) rest) (joined_last (with_last parts t) u us)

pub called_read : (head : Named) (a : List Lexeme) (more : List (List Lexeme)) (t : Tree) (ts : Trees)
    → AreRead a t → EachRead more ts → AreRead (called_with head a more) (tree head (one_more t ts))
called_read head a more t ts first each items o os rest =
    then_rest a t first items (frame (called head) no_more) (o ∷ os) (arguments more) rest
    ∙ arguments_read head more ts each no_more t items o os rest

-- sides of an operator, in parentheses
pub sides_read : (operator : Operator) (a b : List Lexeme) (t u : Tree) → AreRead a t → AreRead b u
    → AreRead (mark Open ∷ (a ++ (between operator ∷ (b ++ (mark Close ∷ [])))))
    (tree (operator_head operator) (one_more t (one_more u no_more)))
sides_read operator a b t u first second items o os rest =
    then_rest a t first items (frame group no_more) (o ∷ os)
    (between operator ∷ (b ++ (mark Close ∷ []))) rest
    ∙ then_rest b u second items (frame (sides operator) (one_more t no_more))
    (frame group no_more ∷ o ∷ os) (mark Close ∷ []) rest

pub conditional_read : (a b c : List Lexeme) (t u v : Tree) → AreRead a t → AreRead b u → AreRead c v
    → AreRead (conditional a b c)
    (tree (symbol_name constant.then) (one_more t (one_more u (one_more v no_more))))
conditional_read a b c t u v first second third items o os rest =
    then_rest a t first items (frame choice no_more) (frame group no_more ∷ o ∷ os)
    (mark Then ∷ (b ++ (mark Else ∷ (c ++ (mark Close ∷ []))))) rest
    ∙ then_rest b u second items (frame choice (one_more t no_more))
    (frame group no_more ∷ o ∷ os) (mark Else ∷ (c ++ (mark Close ∷ []))) rest
    ∙ then_rest c v third items (frame choice (one_more t (one_more u no_more)))
    (frame group no_more ∷ o ∷ os) (mark Close ∷ []) rest

pub local_read : (a b c : List Lexeme) (t u v : Tree) → AreRead a t → AreRead b u → AreRead c v
    → AreRead (local a b c)
    (tree (symbol_name constant.let_) (one_more t (one_more u (one_more v no_more))))
local_read a b c t u v first second third items o os rest =
    then_rest a t first items (frame binding no_more) (frame group no_more ∷ o ∷ os)
    (mark Equals ∷ (b ++ (mark In ∷ (c ++ (mark Close ∷ []))))) rest
    ∙ then_rest b u second items (frame binding (one_more t no_more))
    (frame group no_more ∷ o ∷ os) (mark In ∷ (c ++ (mark Close ∷ []))) rest
    ∙ then_rest c v third items (frame binding (one_more t (one_more u no_more)))
    (frame group no_more ∷ o ∷ os) (mark Close ∷ []) rest
