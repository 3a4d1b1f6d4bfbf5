-- What pieces spell.
use Rattle.std.proofs.Common.{◌≡◌, ℕ, ◌+◌, ◌*◌, ◌≤◌, Bool, true, false, cond, List, [], ◌∷◌, ◌++◌, map, reverse, length, get_or, arith, Option, Some, None, refl, sym, ap, subst, ◌∙◌, add-one, append_assoc}
use Rattle.std.specs.Option.{option_map}
use Rattle.std.proofs.lemmas.Option.{same_Some}
use Rattle.std.proofs.lemmas.List.{append-nil, length-append, reverse-append, map-append}
use Rattle.intern_terms.specs.Handle.{term_name}
use Rattle.intern_terms.specs.Tree.{Tree, Trees, tree, no_more, one_more, count, UnfoldsTo}
use Rattle.intern_terms.specs.declared.handle.TermRef.{TermRef}
use Rattle.ra_ap_intern.specs.Name.{Name}
use Rattle.ra_ap_intern.specs.State.{reads}
use Rattle.ra_ap_intern.specs.Symbols.{Named, same_named, symbol_name, symbol_ref_name}
use Rattle.ra_ap_intern.specs.declared.symbol.Symbol.{Symbol}
use Rattle.ra_ap_intern.specs.declared.symbol.SymbolRef.{SymbolRef}
use Rattle.ra_ap_intern.specs.declared.symbol.symbols.TheConstants as constant
use Rattle.syntax.specs.Lexeme.{Lexeme, lexeme, atom, call, mark, between, operator_of}
use Rattle.syntax.specs.Parsing.{Store, Stand}
use Rattle.syntax.specs.Pieces.{Spell, Lay, Prints, comma_pieces, tokens_among}
use Rattle.syntax.specs.Printing.{arguments, called_with, two_parts, conditional, local, keywords, three_parts, written, tokens_of, tokens_of_each, definition, item_mark, name_or_call, defined_tokens}
use Rattle.syntax.specs.declared.printer.Piece.{Piece}
use Rattle.syntax.specs.declared.printer.Piece.TheVariants as piece
use Rattle.syntax.specs.declared.token.Mark.{Mark}
use Rattle.syntax.specs.declared.token.Mark.TheVariants.{Open, Close, If, Then, Else, Let, Equals, In, Semicolon}
use Rattle.syntax.specs.declared.token.Operator.{Operator}
use Rattle.syntax.specs.declared.token.Token.{Token}
use Rattle.syntax.specs.declared.token.Token.TheVariants as token
use Rattle.intern_terms.proofs.CallerTerms.{tree_head, tree_arguments, forest_length}

abbrev pub marked : Mark → Piece
marked m = piece.Token (token.Mark m)

-- keywords, and what three parts are written as, by whether their head is that of `if`, or of `let`
abbrev keywords_as : Bool → Bool → Option (Mark × Mark × Mark)
keywords_as one other = cond one (Some (If, Then, Else)) (cond other (Some (Let, Equals, In)) None)

abbrev three_as : Bool → Bool → Named → List Lexeme → List Lexeme → List Lexeme → List Lexeme
three_as one other head a b c = cond one (conditional a b c)
    (cond other (local a b c) (called_with head a (b ∷ c ∷ [])))

three_called : (head : Named) → keywords head ≡ None → (a b c : List Lexeme)
    → three_parts head a b c ≡ called_with head a (b ∷ c ∷ [])
three_called head none a b c =
    go (same_named head (symbol_name constant.then)) (same_named head (symbol_name constant.let_)) none
  where
    go : (one other : Bool) → keywords_as one other ≡ None
        → three_as one other head a b c ≡ called_with head a (b ∷ c ∷ [])
    go true other none = absurd (cc)
    go false true none = absurd (cc)
    go false false none = refl

two_are : (parts : List TermRef) (d : TermRef) → length parts ≡ 2
    → parts ≡ get_or parts 0 d ∷ get_or parts 1 d ∷ []
two_are [] d two = absurd (omega arith)
two_are (l ∷ []) d two = absurd (omega arith)
two_are (l ∷ r ∷ []) d two = refl
two_are (l ∷ r ∷ x ∷ more) d two = absurd (omega arith)

three_are : (parts : List TermRef) (d : TermRef) → length parts ≡ 3
    → parts ≡ get_or parts 0 d ∷ get_or parts 1 d ∷ get_or parts 2 d ∷ []
three_are [] d three = absurd (omega arith)
three_are (l ∷ []) d three = absurd (omega arith)
three_are (l ∷ m ∷ []) d three = absurd (omega arith)
three_are (l ∷ m ∷ r ∷ []) d three = refl
three_are (l ∷ m ∷ r ∷ x ∷ more) d three = absurd (omega arith)

tokens_more : (ps qs : List Piece) → tokens_among qs ≤ tokens_among (ps ++ qs)
tokens_more [] qs = let same : tokens_among ([] ++ qs) ≡ tokens_among qs = refl in omega arith
tokens_more (piece.Token t ∷ ps) qs = let more = tokens_more ps qs in omega arith
tokens_more (piece.Tree n ∷ ps) qs = tokens_more ps qs

module _ (s : Store) where
  pub spelled_sides : (l r : TermRef) (operator : Operator) (t u : Tree)
      → UnfoldsTo s (term_name l) t → UnfoldsTo s (term_name r) u → (head : Named)
      → operator_of head ≡ Some operator → (items : List Piece)
      → items ≡ marked Open ∷ piece.Tree l ∷ piece.Token (token.Infix operator) ∷ piece.Tree r
      ∷ marked Close ∷ []
      → Lay s items (two_parts head (operator_of head) (tokens_of t) (tokens_of u))
  spelled_sides l r operator t u first second head is items whole =
      let P : Option Operator → Type 0 =
      λ o. Lay s items (two_parts head o (tokens_of t) (tokens_of u)) in
      let Q : List Piece → Type 0 =
      λ ps. Lay s ps (two_parts head (Some operator) (tokens_of t) (tokens_of u)) in
      let third : List Lexeme = mark Close ∷ [] in
      let later : List Lexeme = tokens_of u ++ third in
      let spelled : Q (marked Open ∷ piece.Tree l ∷ piece.Token (token.Infix operator)
      ∷ piece.Tree r ∷ marked Close ∷ []) = (
        tokens_of t ++ (between operator ∷ later),
        refl,
        (
          t,
          between operator ∷ later,
          first,
          refl,
          (later, refl, (u, third, second, refl, ([], refl, refl))),
        ),
      ) in
      subst P (sym is) (subst Q (sym whole) spelled)

  -- three trees behind marks
  abbrev pub framed : Mark → Mark → Mark → Tree → Tree → Tree → List Lexeme
  framed first second third t u v = mark Open ∷ mark first ∷ (tokens_of t ++ (mark second
      ∷ (tokens_of u ++ (mark third ∷ (tokens_of v ++ (mark Close ∷ []))))))

  pub spelled_three : (a b c : TermRef) (t u v : Tree) → UnfoldsTo s (term_name a) t
      → UnfoldsTo s (term_name b) u → UnfoldsTo s (term_name c) v → (first second third : Mark)
      (items : List Piece)
      → items ≡ marked Open ∷ marked first ∷ piece.Tree a ∷ marked second ∷ piece.Tree b
      ∷ marked third ∷ piece.Tree c ∷ marked Close ∷ []
      → Lay s items (framed first second third t u v)
  spelled_three a b c t u v one two three first second third items whole =
      let Q : List Piece → Type 0 = λ ps. Lay s ps (framed first second third t u v) in
      let end : List Lexeme = mark Close ∷ [] in
      let last : List Lexeme = tokens_of v ++ end in
      let middle : List Lexeme = tokens_of u ++ (mark third ∷ last) in
      let begin : List Lexeme = tokens_of t ++ (mark second ∷ middle) in
      let spelled : Q (marked Open ∷ marked first ∷ piece.Tree a ∷ marked second ∷ piece.Tree b
      ∷ marked third ∷ piece.Tree c ∷ marked Close ∷ []) = (
        mark first ∷ begin,
        refl,
        (
          begin,
          refl,
          (
            t,
            mark second ∷ middle,
            one,
            refl,
            (
              middle,
              refl,
              (
                u,
                mark third ∷ last,
                two,
                refl,
                (
                  last,
                  refl,
                  (v, end, three, refl, ([], refl, refl)),
                ),
              ),
            ),
          ),
        ),
      ) in
      subst Q (sym whole) spelled

  spelled_arguments : (terms : List TermRef) (ts : Trees) → Stand s terms ts
      → Spell s (comma_pieces terms ++ marked Close ∷ []) (arguments (tokens_of_each ts))
  spelled_arguments [] no_more stand = ([], refl, refl)
  spelled_arguments [] (one_more t ts) stand = absurd stand
  spelled_arguments (n ∷ terms) no_more stand = absurd stand
  spelled_arguments (n ∷ terms) (one_more t ts) stand =
      let rest : List Lexeme = arguments (tokens_of_each ts) in (
        tokens_of t ++ rest,
        refl,
        (t, rest, stand.0, refl, spelled_arguments terms ts stand.1),
      )

  pub spelled_call : (name : SymbolRef) (head : Named) → symbol_ref_name name ≡ head
      → (n : TermRef) (terms : List TermRef) (t : Tree) (ts : Trees)
      → UnfoldsTo s (term_name n) t → Stand s terms ts
      → (items one two three : List Piece)
      → one ≡ piece.Token (token.Call name) ∷ [] → two ≡ one ++ piece.Tree n ∷ []
      → three ≡ two ++ comma_pieces terms → items ≡ three ++ marked Close ∷ []
      → Lay s items (called_with head (tokens_of t) (tokens_of_each ts))
  spelled_call name head is n terms t ts first stand items one two three e1 e2 e3 e4 =
      let whole : items ≡ piece.Token (token.Call name) ∷ piece.Tree n
      ∷ (comma_pieces terms ++ marked Close ∷ []) =
      e4 ∙ ap (λ ps. ps ++ marked Close ∷ []) (e3 ∙ ap (λ ps. ps ++ comma_pieces terms)
      (e2 ∙ ap (λ ps. ps ++ piece.Tree n ∷ []) e1)) in
      let rest : List Lexeme = arguments (tokens_of_each ts) in
      let Q : List Piece → Type 0 =
      λ ps. Lay s ps (called_with head (tokens_of t) (tokens_of_each ts)) in
      let spelled : Q (piece.Token (token.Call name) ∷ piece.Tree n
      ∷ (comma_pieces terms ++ marked Close ∷ [])) = (
        tokens_of t ++ rest,
        ap (λ h. call h ∷ (tokens_of t ++ rest)) (sym is),
        (t, rest, first, refl, spelled_arguments terms ts stand),
      ) in
      subst Q (sym whole) spelled

  pub spelled_keywords : (head : Named) (first second third : Mark)
      → keywords head ≡ Some (first, second, third) → (a b c : TermRef) (t u v : Tree)
      → UnfoldsTo s (term_name a) t → UnfoldsTo s (term_name b) u → UnfoldsTo s (term_name c) v
      → (items : List Piece)
      → items ≡ marked Open ∷ marked first ∷ piece.Tree a ∷ marked second ∷ piece.Tree b
      ∷ marked third ∷ piece.Tree c ∷ marked Close ∷ []
      → Lay s items (three_parts head (tokens_of t) (tokens_of u) (tokens_of v))
  spelled_keywords head first second third is a b c t u v one two three items whole =
      go (same_named head (symbol_name constant.then)) (same_named head (symbol_name constant.let_)) is
    where
      P : Mark × Mark × Mark → Type 0
      P k = Lay s items (framed k.0 k.1 k.2 t u v)

      spelled : P (first, second, third)
      spelled = spelled_three a b c t u v one two three first second third items whole

      go : (b1 b2 : Bool) → keywords_as b1 b2 ≡ Some (first, second, third)
          → Lay s items (three_as b1 b2 head (tokens_of t) (tokens_of u) (tokens_of v))
      go true b2 is = subst P (sym (same_Some (If, Then, Else) (first, second, third) is)) spelled
      go false true is = subst P (sym (same_Some (Let, Equals, In) (first, second, third) is)) spelled
      go false false is = absurd (cc)

  -- each other head and parts are written as what an item defines
  pub written_called : (parts : List TermRef) (ts : Trees) → Stand s parts ts → (head : Named)
      → (length parts ≡ 2 → operator_of head ≡ None) → (length parts ≡ 3 → keywords head ≡ None)
      → written head (tokens_of_each ts) ≡ name_or_call head (tokens_of_each ts)
  written_called parts ts stand head two three = go ts (forest_length s ts parts stand)
    where
      go : (ts : Trees) → count ts ≡ length parts
          → written head (tokens_of_each ts) ≡ name_or_call head (tokens_of_each ts)
      go no_more n = refl
      go (one_more t no_more) n = refl
      go (one_more t (one_more u no_more)) n =
          ap (λ o. two_parts head o (tokens_of t) (tokens_of u)) (two (sym n))
      go (one_more t (one_more u (one_more v no_more))) n =
          three_called head (three (sym n)) (tokens_of t) (tokens_of u) (tokens_of v)
      go (one_more t (one_more u (one_more v (one_more w ws)))) n = refl

  -- the trees of two parts, and of three
  two_stand : (parts : List TermRef) (l r : TermRef) → parts ≡ l ∷ r ∷ [] → (ts : Trees)
      → Stand s parts ts → (P : List (List Lexeme) → Type 0)
      → ((t u : Tree) → UnfoldsTo s (term_name l) t → UnfoldsTo s (term_name r) u
      → P (tokens_of t ∷ tokens_of u ∷ [])) → P (tokens_of_each ts)
  two_stand parts l r is ts stand P made =
      go ts (subst (λ terms. Stand s terms ts) is stand)
    where
      go : (ts : Trees) → Stand s (l ∷ r ∷ []) ts → P (tokens_of_each ts)
      go no_more stand = absurd stand
      go (one_more t no_more) stand = absurd stand.1
      go (one_more t (one_more u no_more)) stand = made t u stand.0 stand.1.0
      go (one_more t (one_more u (one_more v vs))) stand = absurd stand.1.1

  three_stand : (parts : List TermRef) (l m r : TermRef) → parts ≡ l ∷ m ∷ r ∷ [] → (ts : Trees)
      → Stand s parts ts → (P : List (List Lexeme) → Type 0)
      → ((t u v : Tree) → UnfoldsTo s (term_name l) t → UnfoldsTo s (term_name m) u
      → UnfoldsTo s (term_name r) v → P (tokens_of t ∷ tokens_of u ∷ tokens_of v ∷ []))
      → P (tokens_of_each ts)
  three_stand parts l m r is ts stand P made =
      go ts (subst (λ terms. Stand s terms ts) is stand)
    where
      go : (ts : Trees) → Stand s (l ∷ m ∷ r ∷ []) ts → P (tokens_of_each ts)
      go no_more stand = absurd stand
      go (one_more t no_more) stand = absurd stand.1
      go (one_more t (one_more u no_more)) stand = absurd stand.1.1
      go (one_more t (one_more u (one_more v no_more))) stand =
          made t u v stand.0 stand.1.0 stand.1.1.0
      go (one_more t (one_more u (one_more v (one_more w ws)))) stand = absurd stand.1.1.1

  pub spelled_atom : (name : SymbolRef) (head : Named) → symbol_ref_name name ≡ head
      → (items : List Piece) → items ≡ piece.Token (token.Atom name) ∷ []
      → Lay s items (atom head ∷ [])
  spelled_atom name head is items whole =
      let Q : List Piece → Type 0 = λ ps. Lay s ps (atom head ∷ []) in
      let spelled : Q (piece.Token (token.Atom name) ∷ []) =
      ([], ap (λ h. atom h ∷ []) (sym is), refl) in
      subst Q (sym whole) spelled

  pub no_parts : (parts : List TermRef) (ts : Trees) → length parts ≡ 0 → Stand s parts ts
      → tokens_of_each ts ≡ []
  no_parts [] no_more none stand = refl
  no_parts [] (one_more t ts) none stand = absurd stand
  no_parts (n ∷ parts) ts none stand = absurd (omega arith)

  pub first_part : (parts others : List TermRef) (n : TermRef) (ts : Trees) → parts ≡ n ∷ others
      → Stand s parts ts → (P : List (List Lexeme) → Type 0)
      → ((t : Tree) (us : Trees) → UnfoldsTo s (term_name n) t → Stand s others us
      → P (tokens_of t ∷ tokens_of_each us)) → P (tokens_of_each ts)
  first_part parts others n ts is stand P made =
      go ts (subst (λ terms. Stand s terms ts) is stand)
    where
      go : (ts : Trees) → Stand s (n ∷ others) ts → P (tokens_of_each ts)
      go no_more stand = absurd stand
      go (one_more t us) stand = made t us stand.0 stand.1

  -- an operator and its sides
  pub sides_of : (parts : List TermRef) (ts : Trees) → Stand s parts ts → length parts ≡ 2
      → (d : TermRef) (operator : Operator) (head : Named) → operator_of head ≡ Some operator
      → (begin end : Piece) → begin ≡ marked Open → end ≡ marked Close → (items : List Piece)
      → items ≡ begin ∷ piece.Tree (get_or parts 0 d) ∷ piece.Token (token.Infix operator)
      ∷ piece.Tree (get_or parts 1 d) ∷ end ∷ []
      → Lay s items (written head (tokens_of_each ts))
  sides_of parts ts stand two d operator head is begin end opens closes items whole =
      two_stand parts (get_or parts 0 d) (get_or parts 1 d) (two_are parts d two) ts stand
      (λ texts. Lay s items (written head texts)) (λ t u first second.
      spelled_sides (get_or parts 0 d) (get_or parts 1 d) operator t u first second head is items
      (whole ∙ (λ i. opens i ∷ piece.Tree (get_or parts 0 d) ∷ piece.Token (token.Infix operator)
      ∷ piece.Tree (get_or parts 1 d) ∷ closes i ∷ [])))

  -- three parts behind keywords
  pub keywords_of : (parts : List TermRef) (ts : Trees) → Stand s parts ts → length parts ≡ 3
      → (d : TermRef) (first second third : Mark) (head : Named)
      → keywords head ≡ Some (first, second, third) → (p q r x y : Piece) → p ≡ marked Open
      → q ≡ marked first → r ≡ marked second → x ≡ marked third → y ≡ marked Close
      → (items : List Piece)
      → items ≡ p ∷ q ∷ piece.Tree (get_or parts 0 d) ∷ r ∷ piece.Tree (get_or parts 1 d) ∷ x
      ∷ piece.Tree (get_or parts 2 d) ∷ y ∷ []
      → Lay s items (written head (tokens_of_each ts))
  keywords_of parts ts stand three d first second third head is p q r x y e1 e2 e3 e4 e5 items whole =
      three_stand parts (get_or parts 0 d) (get_or parts 1 d) (get_or parts 2 d)
      (three_are parts d three) ts stand (λ texts. Lay s items (written head texts))
      (λ t u v one two last.
      spelled_keywords head first second third is (get_or parts 0 d) (get_or parts 1 d)
      (get_or parts 2 d) t u v one two last items
      (whole ∙ (λ i. e1 i ∷ e2 i ∷ piece.Tree (get_or parts 0 d) ∷ e3 i
      ∷ piece.Tree (get_or parts 1 d) ∷ e4 i ∷ piece.Tree (get_or parts 2 d) ∷ e5 i ∷ [])))

  -- a tree that a name reads is written by its head and its parts
  pub written_tree : (name : Name) (t : Tree) (header : Symbol) (parts : List TermRef)
      → Some header ≡ option_map (λ v. v.header) (reads s name)
      → Some parts ≡ option_map (λ v. v.items) (reads s name)
      → UnfoldsTo s name t → (P : List Lexeme → Type 0)
      → ((ts : Trees) → Stand s parts ts → P (written (symbol_name header) (tokens_of_each ts)))
      → P (tokens_of t)
  written_tree name (tree head ts) header parts headed parted is P made =
      subst (λ h. P (written h (tokens_of_each ts))) (tree_head s name head ts is header headed)
      (made ts (tree_arguments s name head ts is parts parted))

  pub defined_tree : (name : Name) (t : Tree) (header : Symbol) (parts : List TermRef)
      → Some header ≡ option_map (λ v. v.header) (reads s name)
      → Some parts ≡ option_map (λ v. v.items) (reads s name)
      → UnfoldsTo s name t → (P : List Lexeme → Type 0)
      → ((ts : Trees) → Stand s parts ts
      → P (name_or_call (symbol_name header) (tokens_of_each ts)))
      → P (defined_tokens t)
  defined_tree name (tree head ts) header parts headed parted is P made =
      subst (λ h. P (name_or_call h (tokens_of_each ts)))
      (tree_head s name head ts is header headed)
      (made ts (tree_arguments s name head ts is parts parted))

  pub lay_spell : (ps : List Piece) (ls : List Lexeme) → Lay s ps ls → Spell s ps ls
  lay_spell [] ls lays = absurd lays
  lay_spell (piece.Token t ∷ ps) ls lays = lays
  lay_spell (piece.Tree n ∷ ps) ls lays = absurd lays

  -- a layout has a token
  lay_tokens : (ps qs : List Piece) (ls : List Lexeme) → Lay s ps ls
      → tokens_among qs + 1 ≤ tokens_among (ps ++ qs)
  lay_tokens [] qs ls lays = absurd lays
  lay_tokens (piece.Token t ∷ ps) qs ls lays = let more = tokens_more ps qs in omega arith
  lay_tokens (piece.Tree n ∷ ps) qs ls lays = absurd lays

  -- no more tokens are among the pieces than they spell
  spelled_tokens : (ps : List Piece) (ls : List Lexeme) → Spell s ps ls
      → tokens_among ps ≤ length ls
  spelled_tokens [] ls so = omega arith
  spelled_tokens (piece.Token t ∷ ps) ls so =
      let less = spelled_tokens ps so.0 so.2 in
      let one : length ls ≡ length so.0 + 1 = ap length so.1 ∙ sym (add-one (length so.0)) in
      omega arith
  spelled_tokens (piece.Tree n ∷ ps) ls so =
      let less = spelled_tokens ps so.1 so.4 in
      let all : length ls ≡ length (tokens_of so.0) + length so.1 =
      ap length so.3 ∙ length-append (tokens_of so.0) so.1 in omega arith

  spell_append : (ps qs : List Piece) (ls ms : List Lexeme) → Spell s ps ls → Spell s qs ms
      → Spell s (ps ++ qs) (ls ++ ms)
  spell_append [] qs ls ms first second =
      subst (Spell s qs) (ap (λ all. all ++ ms) (sym first)) second
  spell_append (piece.Token t ∷ ps) qs ls ms first second = (
    first.0 ++ ms,
    ap (λ all. all ++ ms) first.1,
    spell_append ps qs first.0 ms first.2 second,
  )
  spell_append (piece.Tree n ∷ ps) qs ls ms first second = (
    first.0,
    first.1 ++ ms,
    first.2,
    ap (λ all. all ++ ms) first.3 ∙ append_assoc (tokens_of first.0) first.1 ms,
    spell_append ps qs first.1 ms first.4 second,
  )

  -- an item, from the pieces of what it defines
  pub spelled_item : (defined : List Piece) (b : TermRef) (t u : Tree)
      → Spell s defined (defined_tokens t) → UnfoldsTo s (term_name b) u → (head : Named) (k : Mark)
      → k ≡ item_mark head → (items : List Piece)
      → items ≡ (marked k ∷ defined)
      ++ (marked Equals ∷ piece.Tree b ∷ marked Semicolon ∷ [])
      → Spell s items (definition head (defined_tokens t) (tokens_of u))
  spelled_item defined b t u first second head k is items whole =
      let end : List Lexeme = mark Semicolon ∷ [] in
      let last : List Lexeme = tokens_of u ++ end in
      let begin : List Lexeme = defined_tokens t ++ (mark Equals ∷ last) in
      let P : Mark → Type 0 = λ m. Spell s items (mark m ∷ begin) in
      let Q : List Piece → Type 0 = λ ps. Spell s ps (mark k ∷ begin) in
      let spelled : Q ((marked k ∷ defined)
      ++ (marked Equals ∷ piece.Tree b ∷ marked Semicolon ∷ [])) = (
        begin,
        refl,
        spell_append defined (marked Equals ∷ piece.Tree b ∷ marked Semicolon ∷ [])
            (defined_tokens t) (mark Equals ∷ last) first
            (last, refl, (u, end, second, refl, ([], refl, refl))),
      ) in
      subst P is (subst Q (sym whole) spelled)

  pub prints_first : (layout pieces : List Piece) (spelled : List Lexeme)
      → reverse pieces ≡ layout ++ reverse [] → Spell s layout spelled
      → Prints s 0 [] pieces spelled
  prints_first layout pieces spelled is spell = record {
    more = spelled;
    whole = refl;
    spell = subst (λ ps. Spell s ps spelled) (sym (is ∙ append-nil layout)) spell;
    within = omega arith;
  }

  last_first : (pieces all : List Piece) (p : Piece) → all ≡ pieces ++ p ∷ []
      → reverse all ≡ p ∷ reverse pieces
  last_first pieces all p is = ap reverse is ∙ reverse-append pieces (p ∷ [])

  pub prints_token : (taken : ℕ) (tokens next : List Token) (t : Token) (pieces all : List Piece)
      (spelled : List Lexeme) → all ≡ pieces ++ piece.Token t ∷ [] → next ≡ tokens ++ t ∷ []
      → Prints s taken tokens all spelled → Prints s (taken + 1) next pieces spelled
  prints_token taken tokens next t pieces all spelled is pushed so =
      let spell = subst (λ ps. Spell s ps so.more) (last_first pieces all (piece.Token t) is)
      so.spell in
      record {
        more = spell.0;
        whole = ap (λ ts. map lexeme ts ++ spell.0) pushed
            ∙ ap (λ ls. ls ++ spell.0) (map-append lexeme tokens (t ∷ []))
            ∙ append_assoc (map lexeme tokens) (lexeme t ∷ []) spell.0
            ∙ ap (λ ls. map lexeme tokens ++ ls) (sym spell.1)
            ∙ so.whole;
        spell = spell.2;
        within =
            let before = so.within in
            let among : tokens_among (reverse all) ≡ tokens_among (reverse pieces) + 1 =
            ap tokens_among (last_first pieces all (piece.Token t) is) in
            let one : length so.more ≡ length spell.0 + 1 =
            ap length spell.1 ∙ sym (add-one (length spell.0)) in omega arith;
      }

  pub prints_tree : (taken : ℕ) (tokens : List Token) (n : TermRef)
      (layout pieces all new : List Piece) (spelled : List Lexeme)
      → all ≡ pieces ++ piece.Tree n ∷ [] → reverse new ≡ layout ++ reverse pieces
      → ((t : Tree) → UnfoldsTo s (term_name n) t → Lay s layout (tokens_of t))
      → Prints s taken tokens all spelled → Prints s (taken + 1) tokens new spelled
  prints_tree taken tokens n layout pieces all new spelled is pushed laid so =
      let spell = subst (λ ps. Spell s ps so.more) (last_first pieces all (piece.Tree n) is)
      so.spell in
      record {
        more = so.more;
        whole = so.whole;
        spell = subst (λ ps. Spell s ps so.more) (sym pushed)
            (subst (Spell s (layout ++ reverse pieces)) (sym spell.3)
            (spell_append layout (reverse pieces) (tokens_of spell.0) spell.1
            (lay_spell layout (tokens_of spell.0) (laid spell.0 spell.2)) spell.4));
        within =
            let before = so.within in
            let among : tokens_among (reverse all) ≡ tokens_among (reverse pieces) =
            ap tokens_among (last_first pieces all (piece.Tree n) is) in
            let now : tokens_among (reverse new) ≡ tokens_among (layout ++ reverse pieces) =
            ap tokens_among pushed in
            let more = lay_tokens layout (reverse pieces) (tokens_of spell.0) (laid spell.0 spell.2) in
            omega arith;
      }

  -- after as many pieces as are allowed, the tokens are at least half as many
  pub prints_long : (taken most : ℕ) (tokens : List Token) (pieces : List Piece)
      (spelled : List Lexeme) → most ≤ taken → Prints s taken tokens pieces spelled
      → most ≤ 2 * length spelled
  prints_long taken most tokens pieces spelled all so =
      let within = so.within in
      let few = spelled_tokens (reverse pieces) so.more so.spell in omega arith

  pub prints_last : (taken : ℕ) (tokens : List Token) (pieces : List Piece) (spelled : List Lexeme)
      → pieces ≡ [] → Prints s taken tokens pieces spelled → map lexeme tokens ≡ spelled
  prints_last taken tokens pieces spelled none so =
      let spell = subst (λ ps. Spell s (reverse ps) so.more) none so.spell in
      sym (append-nil (map lexeme tokens)) ∙ ap (λ ls. map lexeme tokens ++ ls) (sym spell)
      ∙ so.whole
