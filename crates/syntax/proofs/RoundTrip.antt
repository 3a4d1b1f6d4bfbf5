-- What is printed is read again.
use Rattle.std.proofs.Common.{◌≡◌, Bool, true, false, cond, List, [], ◌∷◌, ◌++◌, Option, Some, None, refl, sym, ap, subst, ◌∙◌, inl, inr}
use Rattle.std.specs.Prelude.{◌⊎◌, option_and_then}
use Rattle.std.proofs.lemmas.Option.{same_Some}
use Rattle.intern_terms.specs.Store.{IsTerms}
use Rattle.intern_terms.specs.Tree.{Tree, Trees, tree, no_more, one_more, AllUnfold}
use Rattle.ra_ap_intern.specs.Name.{Name}
use Rattle.ra_ap_intern.specs.Symbols.{Named, source_of, symbol_name, same_named}
use Rattle.ra_ap_intern.specs.declared.symbol.symbols.TheConstants as constant
use Rattle.syntax.specs.Lexeme.{Lexeme, mark, operator_of}
use Rattle.syntax.specs.Machine.{Reading, definition, binding, with_last, run, whole_items, program}
use Rattle.syntax.specs.Parsing.{Store, Keeps}
use Rattle.syntax.specs.Printing.{IsItem, AreItems, item_tokens, program_tokens, defined_tokens, name_or_call, two_parts, three_parts, conditional, local, called_with, written, tokens_of, tokens_of_each}
use Rattle.syntax.specs.declared.token.Operator.{Operator}
use Rattle.syntax.specs.declared.token.Mark.TheVariants.{Equals, Semicolon}
use Rattle.intern_terms.proofs.CallerTerms.{joined, one_list, forest_on}
use Rattle.ra_ap_intern.proofs.CallerLemmas.{named_same}
use Rattle.syntax.proofs.Heads.{head_of_operator}
use Rattle.syntax.proofs.Runs.{AreRead, EachRead, called_read, sides_read, conditional_read, local_read, then_rest, frame, joined_last, joined_none}

two_read : (head : Named) (found : Option Operator) → operator_of head ≡ found
    → (a b : List Lexeme) (t u : Tree) → AreRead a t → AreRead b u
    → AreRead (two_parts head found a b) (tree head (one_more t (one_more u no_more)))
two_read head None is a b t u first second = called_read head a (b ∷ []) t _ first (second, tt)
two_read head (Some operator) is a b t u first second =
    let P : Named → Type 0 =
    λ h. AreRead (two_parts head (Some operator) a b) (tree h (one_more t (one_more u no_more)))
    in subst P (head_of_operator head operator is) (sides_read operator a b t u first second)

three_read : (head : Named) (a b c : List Lexeme) (t u v : Tree)
    → AreRead a t → AreRead b u → AreRead c v
    → AreRead (three_parts head a b c) (tree head (one_more t (one_more u (one_more v no_more))))
three_read head a b c t u v first second third =
    go (same_named head (symbol_name constant.then)) refl
    (same_named head (symbol_name constant.let_)) refl
  where
    go : (x : Bool) → same_named head (symbol_name constant.then) ≡ x
        → (y : Bool) → same_named head (symbol_name constant.let_) ≡ y
        → AreRead (cond x (conditional a b c) (cond y (local a b c)
        (called_with head a (b ∷ c ∷ [])))) (tree head (one_more t (one_more u (one_more v no_more))))
    go true is y or =
        let P : Named → Type 0 = λ h. AreRead (conditional a b c)
        (tree h (one_more t (one_more u (one_more v no_more))))
        in subst P (sym (named_same head (symbol_name constant.then) is))
        (conditional_read a b c t u v first second third)
    go false is true or =
        let P : Named → Type 0 = λ h. AreRead (local a b c)
        (tree h (one_more t (one_more u (one_more v no_more))))
        in subst P (sym (named_same head (symbol_name constant.let_) or))
        (local_read a b c t u v first second third)
    go false is false or = called_read head a (b ∷ c ∷ []) t _ first (second, (third, tt))

written_read : (head : Named) (texts : List (List Lexeme)) (ts : Trees) → EachRead texts ts
    → AreRead (written head texts) (tree head ts)
written_read head [] no_more each = λ items o os rest. refl
written_read head [] (one_more t ts) each = absurd each
written_read head (a ∷ more) no_more each = absurd each
written_read head (a ∷ []) (one_more t no_more) each = called_read head a [] t no_more each.0 tt
written_read head (a ∷ []) (one_more t (one_more u us)) each = absurd each.1
written_read head (a ∷ b ∷ more) (one_more t no_more) each = absurd each.1
written_read head (a ∷ b ∷ []) (one_more t (one_more u no_more)) each =
    two_read head (operator_of head) refl a b t u each.0 each.1.0
written_read head (a ∷ b ∷ []) (one_more t (one_more u (one_more v vs))) each = absurd each.1.1
written_read head (a ∷ b ∷ c ∷ more) (one_more t (one_more u no_more)) each = absurd each.1.1
written_read head (a ∷ b ∷ c ∷ []) (one_more t (one_more u (one_more v no_more))) each =
    three_read head a b c t u v each.0 each.1.0 each.1.1.0
written_read head (a ∷ b ∷ c ∷ []) (one_more t (one_more u (one_more v (one_more w ws)))) each =
    absurd each.1.1.1
written_read head (a ∷ b ∷ c ∷ d ∷ more) (one_more t (one_more u (one_more v no_more))) each =
    absurd each.1.1.1
written_read head (a ∷ b ∷ c ∷ d ∷ more) (one_more t (one_more u (one_more v (one_more w ws)))) each =
    called_read head a (b ∷ c ∷ d ∷ more) t (one_more u (one_more v (one_more w ws)))
    each.0 each.1

mutual
  pub tree_read : (t : Tree) → AreRead (tokens_of t) t
  tree_read (tree head parts) = written_read head (tokens_of_each parts) parts (trees_read parts)

  trees_read : (ts : Trees) → EachRead (tokens_of_each ts) ts
  trees_read no_more = tt
  trees_read (one_more t ts) = (tree_read t, trees_read ts)

name_or_call_read : (head : Named) (texts : List (List Lexeme)) (ts : Trees) → EachRead texts ts
    → AreRead (name_or_call head texts) (tree head ts)
name_or_call_read head [] no_more each = λ items o os rest. refl
name_or_call_read head [] (one_more t ts) each = absurd each
name_or_call_read head (a ∷ more) no_more each = absurd each
name_or_call_read head (a ∷ more) (one_more t ts) each =
    called_read head a more t ts each.0 each.1

defined_read : (t : Tree) → AreRead (defined_tokens t) t
defined_read (tree head parts) =
    name_or_call_read head (tokens_of_each parts) parts (trees_read parts)

-- between items
abbrev pub between_items : Trees → Reading
between_items items = record { items = items; opens = []; value = None }

-- an item with this head is read
abbrev IsItemRead : Trees → Tree → Tree → List Lexeme → Named → Type 0
IsItemRead items l r rest head =
    let item = tree head (one_more l (one_more r no_more)) in
    run (between_items items) (item_tokens item ++ rest)
    ≡ run (between_items (with_last items item)) rest

item_read_as : (items : Trees) (head : Named) (l r : Tree) (rest : List Lexeme)
    → (head ≡ symbol_name constant.fn_) ⊎ (head ≡ symbol_name constant.let_)
    → IsItemRead items l r rest head
unfolding source_of
item_read_as items head l r rest (inl is) =
    subst (IsItemRead items l r rest) (sym is)
    (then_rest (defined_tokens l) l (defined_read l) items (frame definition no_more) []
    (mark Equals ∷ (tokens_of r ++ (mark Semicolon ∷ []))) rest
    ∙ then_rest (tokens_of r) r (tree_read r) items (frame definition (one_more l no_more)) []
    (mark Semicolon ∷ []) rest)
item_read_as items head l r rest (inr is) =
    subst (IsItemRead items l r rest) (sym is)
    (then_rest (defined_tokens l) l (defined_read l) items (frame binding no_more) []
    (mark Equals ∷ (tokens_of r ++ (mark Semicolon ∷ []))) rest
    ∙ then_rest (tokens_of r) r (tree_read r) items (frame binding (one_more l no_more)) []
    (mark Semicolon ∷ []) rest)

item_read : (items : Trees) (t : Tree) (rest : List Lexeme) → IsItem t
    → run (between_items items) (item_tokens t ++ rest)
    ≡ run (between_items (with_last items t)) rest
item_read items (tree head no_more) rest is = absurd is
item_read items (tree head (one_more l no_more)) rest is = absurd is
item_read items (tree head (one_more l (one_more r no_more))) rest is =
    item_read_as items head l r rest is
item_read items (tree head (one_more l (one_more r (one_more u us)))) rest is = absurd is

items_read : (items ts : Trees) → AreItems ts
    → run (between_items items) (program_tokens ts) ≡ Some (between_items (joined items ts))
items_read items no_more are = ap (λ all. Some (between_items all)) (sym (joined_none items))
items_read items (one_more t ts) are =
    item_read items t (program_tokens ts) are.0
    ∙ items_read (with_last items t) ts are.1
    ∙ ap (λ all. Some (between_items all)) (joined_last items t ts)

-- the tokens of a program are read as that program
pub program_read : (ts : Trees) → AreItems ts → program (program_tokens ts) ≡ Some ts
program_read ts are =
    ap (option_and_then (λ r. whole_items r.items r.opens r.value)) (items_read no_more ts are)

-- a program that was printed is read as the terms that it was printed from
pub read_again : (old new : Store) → Keeps old new → IsTerms new
    → (ls : List Lexeme) (read names : List Name) (items ts : Trees)
    → program ls ≡ Some items → AllUnfold new read items
    → AllUnfold old names ts → AreItems ts → ls ≡ program_tokens ts → read ≡ names
read_again old new keeps ok ls read names items ts is stand stands are same =
    let found : Some items ≡ Some ts = sym is ∙ ap program same ∙ program_read ts are in
    one_list new ok ts read names (subst (AllUnfold new read) (same_Some items ts found) stand)
    (forest_on old new keeps ts names stands)

pub not_refused : (ls : List Lexeme) (ts : Trees) → program ls ≡ None → AreItems ts
    → ls ≡ program_tokens ts → ⊥
not_refused ls ts none are same =
    let found : None ≡ Some ts = sym none ∙ ap program same ∙ program_read ts are in
    absurd (cc)
