-- What a token makes of what was read, step by step.
use Rattle.std.proofs.Common.{◌≡◌, ℕ, Bool, true, false, cond, not, ◌&&◌, List, [], ◌∷◌, ◌++◌, map, reverse, length, Option, Some, None, refl, sym, ap, subst, ◌∙◌, Result, Ok, Err}
use Rattle.std.specs.Prelude.{IfErr}
use Rattle.std.proofs.lemmas.List.{reverse-reverse}
use Rattle.intern_terms.specs.Handle.{term_name}
use Rattle.intern_terms.specs.Tree.{Tree, Trees, tree, no_more, one_more, count, UnfoldsTo}
use Rattle.intern_terms.specs.declared.handle.TermRef.{TermRef}
use Rattle.ra_ap_intern.specs.Symbols.{symbol_ref_name}
use Rattle.ra_ap_intern.specs.declared.symbol.SymbolRef.{SymbolRef}
use Rattle.syntax.specs.Frames.{shape_of, opened_by, Opened, no_frame}
use Rattle.syntax.specs.Lexeme.{atom, lexeme}
use Rattle.syntax.specs.Machine.{Unclosed, Reading, with_last, is_nil, opened, opening, with_opened, separates, closes, closes_item, completed, sides, begun, marked, reduced, gone_on}
use Rattle.syntax.specs.Parsing.{Store, Keeps, Stand, IsUnclosed, AreUnclosed, IsValue, Opens, ReadsBefore, Reaches, OnUnexpected, IsUnexpected}
use Rattle.syntax.specs.declared.fault.Stop.{Stop}
use Rattle.syntax.specs.declared.fault.Stop.TheVariants.{Unexpected, Fault}
use Rattle.syntax.specs.declared.machine.Form.{Form}
use Rattle.syntax.specs.declared.machine.Form.TheVariants as form
use Rattle.syntax.specs.declared.token.Operator.{Operator}
use Rattle.syntax.specs.declared.machine.Frame.{Frame}
use Rattle.syntax.specs.declared.machine.Machine.{Machine}
use Rattle.syntax.specs.declared.token.Mark.{Mark}
use Rattle.syntax.specs.declared.token.Token.{Token}
use Rattle.syntax.specs.declared.token.Token.TheVariants as token
use Rattle.intern_terms.proofs.CallerTerms.{forest_on, forest_length}
use Rattle.syntax.proofs.Reading.{stand_last, keeps_forms, opens_push, HasLast, opens_pop, opens_none}

cond_true : {A : Type 0} (b : Bool) (x y : A) → b ≡ true → cond b x y ≡ x
cond_true b x y is = ap (λ b. cond b x y) is

cond_false : {A : Type 0} (b : Bool) (x y : A) → b ≡ false → cond b x y ≡ y
cond_false b x y is = ap (λ b. cond b x y) is

open_as : (s : Store) (f : Frame) (fs gs : List Frame) → reverse (f ∷ fs) ≡ gs
    → (os : List Unclosed) → AreUnclosed s gs os → false ≡ is_nil os
open_as s f fs gs e (o ∷ os) are = refl
open_as s f fs (g ∷ gs) e [] are = absurd are
open_as s f fs [] e [] are =
    let whole : f ∷ fs ≡ [] = sym (reverse-reverse (f ∷ fs)) ∙ ap reverse e in
    absurd (cc)

-- no form is open where there is no frame
pub none_open : (s : Store) (fs : List Frame) (os : List Unclosed) → Opens s fs os
    → no_frame fs ≡ is_nil os
none_open s [] os are = sym (ap is_nil (opens_none s os are))
none_open s (f ∷ fs) os are = open_as s f fs (reverse (f ∷ fs)) refl os are

value_stands : (s : Store) (v : Option TermRef) (o : Option Tree) → v ≡ None → o ≡ None
    → IsValue s v o
value_stands s v o is none =
    subst (λ v. IsValue s v o) (sym is) (subst (λ o. IsValue s None o) (sym none) tt)

begun_named : (old new : Store) → Keeps old new → (m n : Machine) (name : SymbolRef)
    → n.items ≡ m.items → n.frames ≡ m.frames
    → IsValue new n.value (Some (tree (symbol_ref_name name) no_more))
    → no_frame m.frames.items ≡ false → (items : Trees) (os : List Unclosed)
    → ReadsBefore old m items os → Reaches new n (begun items os (atom (symbol_ref_name name)))
begun_named old new keeps m n name same_items same_frames value some items [] before =
    let lacks : true ≡ false = sym (none_open old m.frames.items [] before.opens) ∙ some in
    absurd (cc)
begun_named old new keeps m n name same_items same_frames value some items (o ∷ os) before = (
  record {
    items = items;
    opens = o ∷ os;
    value = Some (tree (symbol_ref_name name) no_more);
  },
  refl,
  record {
    items = subst (λ v. Stand new v.items items) (sym same_items)
        (forest_on old new keeps items (map term_name m.items.items) before.items);
    opens = subst (λ v. Opens new v.items (o ∷ os)) (sym same_frames)
        (keeps_forms old new keeps (reverse m.frames.items) (o ∷ os) before.opens);
    value = value;
  },
)

-- a name or a number where an expression begins
pub begun_atom : (old new : Store) → Keeps old new → (m n : Machine) (name : SymbolRef)
    (t : Token) → t ≡ token.Atom name → n.items ≡ m.items → n.frames ≡ m.frames
    → IsValue new n.value (Some (tree (symbol_ref_name name) no_more))
    → no_frame m.frames.items ≡ false → (items : Trees) (os : List Unclosed)
    → ReadsBefore old m items os → Reaches new n (begun items os (lexeme t))
begun_atom old new keeps m n name t is same_items same_frames value some items os before =
    let P : Token → Type 0 = λ t. Reaches new n (begun items os (lexeme t)) in
    subst P (sym is)
    (begun_named old new keeps m n name same_items same_frames value some items os before)

-- each other token opens what it opens
abbrev pub IsOther : Token → Type 0
IsOther (token.Atom name) = ⊥
IsOther (token.Call name) = Unit {0}
IsOther (token.Infix operator) = Unit {0}
IsOther (token.Mark mark) = Unit {0}

begun_form : (t : Token) → IsOther t → (items : Trees) (os : List Unclosed)
    → begun items os (lexeme t) ≡ with_opened items os (opened (lexeme t) (not (is_nil os)))
begun_form (token.Atom name) other items os = absurd other
begun_form (token.Call name) other items [] = refl
begun_form (token.Call name) other items (o ∷ os) = refl
begun_form (token.Infix operator) other items [] = refl
begun_form (token.Infix operator) other items (o ∷ os) = refl
begun_form (token.Mark mark) other items [] = refl
begun_form (token.Mark mark) other items (o ∷ os) = refl

begun_by : (s : Store) (m : Machine) (t : Token) → IsOther t → (found : Option Form)
    → opened_by found ≡ opened (lexeme t) (not (no_frame m.frames.items)) → (items : Trees)
    (os : List Unclosed) → ReadsBefore s m items os
    → begun items os (lexeme t) ≡ with_opened items os (opened_by found)
begun_by s m t other found is items os before =
    begun_form t other items os
    ∙ ap (λ b. with_opened items os (opened (lexeme t) (not b)))
    (sym (none_open s m.frames.items os before.opens))
    ∙ ap (with_opened items os) (sym is)

pub begun_none : (s : Store) (m : Machine) (t : Token) → IsOther t
    → (found : Option Form) → opened_by found ≡ opened (lexeme t) (not (no_frame m.frames.items))
    → found ≡ None → (items : Trees) (os : List Unclosed)
    → ReadsBefore s m items os → begun items os (lexeme t) ≡ None
begun_none s m t other found is none items os before =
    begun_by s m t other found is items os before
    ∙ ap (λ found. with_opened items os (opened_by found)) none

pub begun_opened : (s : Store) (m n : Machine) (t : Token) → IsOther t
    → (found : Option Form) (form : Form)
    → opened_by found ≡ opened (lexeme t) (not (no_frame m.frames.items)) → found ≡ Some form
    → m.value ≡ None → n.items ≡ m.items → n.value ≡ m.value
    → Opened m.frames.items n.frames.items form [] → (items : Trees) (os : List Unclosed)
    → ReadsBefore s m items os → Reaches s n (begun items os (lexeme t))
begun_opened s m n t other found form is some none same_items same_value new items os before = (
  record { items = items; opens = opening (shape_of form) ∷ os; value = None },
  begun_by s m t other found is items os before
      ∙ ap (λ found. with_opened items os (opened_by found)) some,
  record {
    items = subst (λ v. Stand s v.items items) (sym same_items) before.items;
    opens = subst (λ fs. Opens s fs (opening (shape_of form) ∷ os)) (sym new.1)
        (opens_push s m.frames.items new.0 (opening (shape_of form)) os before.opens (record {
          shape = ap shape_of new.2;
          parts = subst (λ terms. Stand s terms no_more) (sym new.3) tt;
        }));
    value = value_stands s n.value None (same_value ∙ none) refl;
  },
)

-- the innermost form and its frame are separated, and closed, by the same marks
separates_by : (s : Store) (f : Frame) (o : Unclosed) (mk : Mark) (k : ℕ) (b : Bool)
    → IsUnclosed s f o → k ≡ length f.parts.items → separates (shape_of f.form) k mk ≡ b
    → separates o.shape (count o.parts) mk ≡ b
separates_by s f o mk k b is same holds =
    ap (λ shape. separates shape (count o.parts) mk) (sym is.shape)
    ∙ ap (λ n. separates (shape_of f.form) n mk)
    (forest_length s o.parts f.parts.items is.parts ∙ sym same)
    ∙ holds

closes_by : (s : Store) (f : Frame) (o : Unclosed) (mk : Mark) (b : Bool)
    → IsUnclosed s f o → closes (shape_of f.form) mk ≡ b → closes o.shape mk ≡ b
closes_by s f o mk b is holds = ap (λ shape. closes shape mk) (sym is.shape) ∙ holds

closes_item_by : (s : Store) (f : Frame) (o : Unclosed) (fs : List Frame) (os : List Unclosed)
    (mk : Mark) (k : ℕ) (b : Bool) → IsUnclosed s f o → Opens s fs os
    → k ≡ length f.parts.items → (closes_item (shape_of f.form) k mk && no_frame fs) ≡ b
    → (closes_item o.shape (count o.parts) mk && is_nil os) ≡ b
closes_item_by s f o fs os mk k b is are same holds =
    ap (λ shape. closes_item shape (count o.parts) mk && is_nil os) (sym is.shape)
    ∙ ap (λ n. closes_item (shape_of f.form) n mk && is_nil os)
    (forest_length s o.parts f.parts.items is.parts ∙ sym same)
    ∙ ap (λ e. closes_item (shape_of f.form) k mk && e) (sym (none_open s fs os are))
    ∙ holds

pop_before : (s : Store) (m : Machine) (fs : List Frame) (f : Frame) (items : Trees)
    (os : List Unclosed) → m.frames.items ≡ fs ++ f ∷ [] → ReadsBefore s m items os
    → HasLast s fs f os
pop_before s m fs f items os all before =
    opens_pop s fs f os (subst (λ fs. Opens s fs os) all before.opens)

-- another part follows
pub marked_part : (s : Store) (m n : Machine) (fs : List Frame) (f : Frame) (term : TermRef)
    (mk : Mark) (k : ℕ) → m.frames.items ≡ fs ++ f ∷ [] → k ≡ length f.parts.items
    → separates (shape_of f.form) k mk ≡ true → n.items ≡ m.items → n.value ≡ None
    → Opened fs n.frames.items f.form (f.parts.items ++ term ∷ []) → (items : Trees)
    (os : List Unclosed) (t : Tree) → ReadsBefore s m items os → UnfoldsTo s (term_name term) t
    → Reaches s n (marked items os t mk)
marked_part s m n fs f term mk k all same holds same_items none new items os t before unfolds =
    let p = pop_before s m fs f items os all before in
    let o : Unclosed = record { shape = p.last.shape; parts = with_last p.last.parts t } in (
      record { items = items; opens = o ∷ p.others; value = None },
      ap (λ os. marked items os t mk) p.whole
          ∙ cond_true (separates p.last.shape (count p.last.parts) mk) _ _
          (separates_by s f p.last mk k true p.is same holds),
      record {
        items = subst (λ v. Stand s v.items items) (sym same_items) before.items;
        opens = subst (λ fs. Opens s fs (o ∷ p.others)) (sym new.1)
            (opens_push s fs new.0 o p.others p.are (record {
              shape = ap shape_of new.2 ∙ p.is.shape;
              parts = subst (λ terms. Stand s terms (with_last p.last.parts t)) (sym new.3)
                  (stand_last s f.parts.items p.last.parts term t p.is.parts unfolds);
            }));
        value = value_stands s n.value None none refl;
      },
    )

-- the form is closed
pub marked_closed : (old new : Store) → Keeps old new → (m n : Machine) (fs : List Frame)
    (f : Frame) (term : TermRef) (mk : Mark) (k : ℕ) → m.frames.items ≡ fs ++ f ∷ []
    → k ≡ length f.parts.items → separates (shape_of f.form) k mk ≡ false
    → closes (shape_of f.form) mk ≡ true → n.items ≡ m.items → n.frames.items ≡ fs
    → ((o : Unclosed) (t : Tree) → IsUnclosed old f o → UnfoldsTo old (term_name term) t
    → IsValue new n.value (Some (completed o t))) → (items : Trees)
    (os : List Unclosed) (t : Tree) → ReadsBefore old m items os
    → UnfoldsTo old (term_name term) t → Reaches new n (marked items os t mk)
marked_closed old new keeps m n fs f term mk k all same lacks holds same_items same_frames closed
    items os t before unfolds =
    let p = pop_before old m fs f items os all before in (
      record { items = items; opens = p.others; value = Some (completed p.last t) },
      ap (λ os. marked items os t mk) p.whole
          ∙ cond_false (separates p.last.shape (count p.last.parts) mk) _ _
          (separates_by old f p.last mk k false p.is same lacks)
          ∙ cond_true (closes p.last.shape mk) _ _ (closes_by old f p.last mk true p.is holds),
      record {
        items = subst (λ v. Stand new v.items items) (sym same_items)
            (forest_on old new keeps items (map term_name m.items.items) before.items);
        opens = subst (λ fs. Opens new fs p.others) (sym same_frames)
            (keeps_forms old new keeps (reverse fs) p.others p.are);
        value = closed p.last t p.is unfolds;
      },
    )

-- the item is closed
pub marked_item : (old new : Store) → Keeps old new → (m n : Machine) (fs : List Frame)
    (f : Frame) (term : TermRef) (mk : Mark) (k : ℕ) → m.frames.items ≡ fs ++ f ∷ []
    → k ≡ length f.parts.items → separates (shape_of f.form) k mk ≡ false
    → closes (shape_of f.form) mk ≡ false
    → (closes_item (shape_of f.form) k mk && no_frame fs) ≡ true
    → n.frames.items ≡ fs → n.value ≡ None
    → ((items : Trees) (o : Unclosed) (t : Tree) → Stand old m.items.items items
    → IsUnclosed old f o → UnfoldsTo old (term_name term) t
    → Stand new n.items.items (with_last items (completed o t))) → (items : Trees)
    (os : List Unclosed) (t : Tree) → ReadsBefore old m items os
    → UnfoldsTo old (term_name term) t → Reaches new n (marked items os t mk)
marked_item old new keeps m n fs f term mk k all same lacks differs holds same_frames none closed
    items os t before unfolds =
    let p = pop_before old m fs f items os all before in (
      record { items = with_last items (completed p.last t); opens = p.others; value = None },
      ap (λ os. marked items os t mk) p.whole
          ∙ cond_false (separates p.last.shape (count p.last.parts) mk) _ _
          (separates_by old f p.last mk k false p.is same lacks)
          ∙ cond_false (closes p.last.shape mk) _ _ (closes_by old f p.last mk false p.is differs)
          ∙ cond_true (closes_item p.last.shape (count p.last.parts) mk && is_nil p.others) _ _
          (closes_item_by old f p.last fs p.others mk k true p.is p.are same holds),
      record {
        items = closed items p.last t before.items p.is unfolds;
        opens = subst (λ fs. Opens new fs p.others) (sym same_frames)
            (keeps_forms old new keeps (reverse fs) p.others p.are);
        value = value_stands new n.value None none refl;
      },
    )

-- the mark can't stand here
pub marked_refused : (s : Store) (m : Machine) (fs : List Frame) (f : Frame) (mk : Mark) (k : ℕ)
    → m.frames.items ≡ fs ++ f ∷ [] → k ≡ length f.parts.items
    → separates (shape_of f.form) k mk ≡ false → closes (shape_of f.form) mk ≡ false
    → (closes_item (shape_of f.form) k mk && no_frame fs) ≡ false → (items : Trees)
    (os : List Unclosed) (t : Tree) → ReadsBefore s m items os → marked items os t mk ≡ None
marked_refused s m fs f mk k all same lacks differs nor items os t before =
    let p = pop_before s m fs f items os all before in
    ap (λ os. marked items os t mk) p.whole
    ∙ cond_false (separates p.last.shape (count p.last.parts) mk) _ _
    (separates_by s f p.last mk k false p.is same lacks)
    ∙ cond_false (closes p.last.shape mk) _ _ (closes_by s f p.last mk false p.is differs)
    ∙ cond_false (closes_item p.last.shape (count p.last.parts) mk && is_nil p.others) _ _
    (closes_item_by s f p.last fs p.others mk k false p.is p.are same nor)

pub marked_nothing : (s : Store) (m : Machine) (mk : Mark) → m.frames.items ≡ []
    → (items : Trees) (os : List Unclosed) (t : Tree) → ReadsBefore s m items os
    → marked items os t mk ≡ None
marked_nothing s m mk none items os t before =
    ap (λ os. marked items os t mk)
    (opens_none s os (subst (λ fs. Opens s fs os) none before.opens))

-- what is told where a token can't stand
pub on_unexpected : (told : Stop) (P : Type 0) → IsUnexpected told → P → OnUnexpected told P
on_unexpected (Unexpected error) P is proof = proof
on_unexpected (Fault fault) P is proof = absurd is

pub if_unexpected_more : {A : Type 0} (r : Result A Stop) (P Q : Type 0) → (P → Q)
    → IfErr r (λ told. OnUnexpected told P) → IfErr r (λ told. OnUnexpected told Q)
if_unexpected_more (Ok x) P Q more is = tt
if_unexpected_more (Err told) P Q more is = go told is
  where
    go : (told : Stop) → OnUnexpected told P → OnUnexpected told Q
    go (Unexpected error) is = more is
    go (Fault fault) is = tt

-- an operator behind an expression
pub gone_between : (old new : Store) → Keeps old new → (m mid n : Machine) (operator : Operator)
    (t : Token) → t ≡ token.Infix operator → (left : TermRef) → mid.items ≡ m.items
    → n.items ≡ mid.items → n.value ≡ None
    → Opened mid.frames.items n.frames.items (form.Infix operator) (left ∷ [])
    → (items : Trees) (os : List Unclosed) (v : Tree) → ReadsBefore old m items os
    → Opens new mid.frames.items (reduced (Some operator) os v).0
    × UnfoldsTo new (term_name left) (reduced (Some operator) os v).1
    → Reaches new n (gone_on items os v (lexeme t))
gone_between old new keeps m mid n operator t is left first second none pushed items os v before
    so =
    let r = reduced (Some operator) os v in
    let o : Unclosed = record { shape = sides operator; parts = one_more r.1 no_more } in (
      record { items = items; opens = o ∷ r.0; value = None },
      ap (λ t. gone_on items os v (lexeme t)) is,
      record {
        items = subst (λ w. Stand new w.items items) (sym (second ∙ first))
            (forest_on old new keeps items (map term_name m.items.items) before.items);
        opens = subst (λ fs. Opens new fs (o ∷ r.0)) (sym pushed.1)
            (opens_push new mid.frames.items pushed.0 o r.0 so.0 (record {
              shape = ap shape_of pushed.2;
              parts = subst (λ terms. Stand new terms (one_more r.1 no_more)) (sym pushed.3)
                  (so.1, tt);
            }));
        value = value_stands new n.value None none refl;
      },
    )

-- a mark behind an expression
pub gone_marked : (old mid : Store) → Keeps old mid → (m k : Machine) (mk : Mark) (t : Token)
    → t ≡ token.Mark mk → (whole : TermRef) → k.items ≡ m.items → (P : Option Reading → Type 0)
    → ((items : Trees) (os : List Unclosed) (v : Tree) → ReadsBefore mid k items os
    → UnfoldsTo mid (term_name whole) v → P (marked items os v mk))
    → (items : Trees) (os : List Unclosed) (v : Tree) → ReadsBefore old m items os
    → Opens mid k.frames.items (reduced None os v).0
    × UnfoldsTo mid (term_name whole) (reduced None os v).1
    → P (gone_on items os v (lexeme t))
gone_marked old mid keeps m k mk t is whole first P goes items os v before so =
    subst (λ t. P (gone_on items os v (lexeme t))) (sym is)
    (goes items (reduced None os v).0 (reduced None os v).1 (record {
      items = subst (λ w. Stand mid w.items items) (sym first)
          (forest_on old mid keeps items (map term_name m.items.items) before.items);
      opens = so.0;
    }) so.1)
