-- What was read, as trees, after each change.
use Rattle.std.proofs.Common.{◌≡◌, Bool, true, false, cond, List, [], ◌∷◌, ◌++◌, map, reverse, length, Option, Some, None, refl, sym, ap, subst, ◌∙◌}
use Rattle.std.proofs.lemmas.List.{reverse-append, reverse-reverse}
use Rattle.intern_terms.specs.Handle.{term_name}
use Rattle.intern_terms.specs.Tree.{Tree, Trees, tree, no_more, one_more, count, UnfoldsTo}
use Rattle.intern_terms.specs.declared.handle.TermRef.{TermRef}
use Rattle.ra_ap_intern.specs.Name.{Name}
use Rattle.ra_ap_intern.specs.Symbols.{Named}
use Rattle.syntax.specs.Frames.{shape_of, NoneYields}
use Rattle.syntax.specs.Machine.{Unclosed, with_last, yields, head_of, headed, completed, reduced}
use Rattle.syntax.specs.Parsing.{Store, Keeps, Stand, IsUnclosed, AreUnclosed, Opens}
use Rattle.syntax.specs.declared.machine.Frame.{Frame}
use Rattle.syntax.specs.declared.token.Operator.{Operator}
use Rattle.intern_terms.proofs.CallerTerms.{forest_on, forest_length, forest_append}
use Rattle.syntax.proofs.Runs.{joined_last, joined_none}

pub stand_last : (s : Store) (terms : List TermRef) (ts : Trees) (term : TermRef) (t : Tree)
    → Stand s terms ts → UnfoldsTo s (term_name term) t
    → Stand s (terms ++ term ∷ []) (with_last ts t)
stand_last s terms ts term t all one =
    subst (Stand s (terms ++ term ∷ []))
    (sym (joined_last ts t no_more) ∙ joined_none (with_last ts t))
    (forest_append s ts (one_more t no_more) terms (term ∷ []) all (one, tt))

module _ (old new : Store) (keeps : Keeps old new) where
  pub keeps_form : (f : Frame) (o : Unclosed) → IsUnclosed old f o → IsUnclosed new f o
  keeps_form f o is = record {
    shape = is.shape;
    parts = forest_on old new keeps o.parts (map term_name f.parts.items) is.parts;
  }

  pub keeps_forms : (fs : List Frame) (os : List Unclosed) → AreUnclosed old fs os
      → AreUnclosed new fs os
  keeps_forms [] [] are = tt
  keeps_forms [] (o ∷ os) are = absurd are
  keeps_forms (f ∷ fs) [] are = absurd are
  keeps_forms (f ∷ fs) (o ∷ os) are = (keeps_form f o are.0, keeps_forms fs os are.1)

pub keeps_itself : (s : Store) → Keeps s s
keeps_itself s = λ n t is. is

pub keeps_on : (a b c : Store) → Keeps a b → Keeps b c → Keeps a c
keeps_on a b c first second = λ n t is. second n t (first n t is)

pub last_first : (fs : List Frame) (f : Frame) → reverse (fs ++ f ∷ []) ≡ f ∷ reverse fs
last_first fs f = reverse-append fs (f ∷ [])

pub opens_push : (s : Store) (fs : List Frame) (f : Frame) (o : Unclosed) (os : List Unclosed)
    → Opens s fs os → IsUnclosed s f o → Opens s (fs ++ f ∷ []) (o ∷ os)
opens_push s fs f o os are is =
    let P : List Frame → Type 0 = λ all. AreUnclosed s all (o ∷ os) in
    subst P (sym (last_first fs f)) (is, are)

-- the innermost form, and the others
pub record HasLast (s : Store) (fs : List Frame) (f : Frame) (os : List Unclosed) : Type 0 where
  pub last : Unclosed
  pub others : List Unclosed
  pub whole : os ≡ last ∷ others
  pub is : IsUnclosed s f last
  pub are : Opens s fs others

pub opens_pop : (s : Store) (fs : List Frame) (f : Frame) (os : List Unclosed)
    → Opens s (fs ++ f ∷ []) os → HasLast s fs f os
opens_pop s fs f os are =
    let P : List Frame → Type 0 = λ all. AreUnclosed s all os in
    go os (subst P (last_first fs f) are)
  where
    go : (os : List Unclosed) → AreUnclosed s (f ∷ reverse fs) os → HasLast s fs f os
    go [] are = absurd are
    go (o ∷ os) are =
        record { last = o; others = os; whole = refl; is = are.0; are = are.1 }

pub opens_none : (s : Store) (os : List Unclosed) → Opens s [] os → os ≡ []
opens_none s [] are = refl
opens_none s (o ∷ os) are = absurd are

-- what is open and the expression before the next token come to this once they are reduced
pub record Reduces (s : Store) (fs : List Frame) (term : TermRef) (next : Option Operator)
    (result : List Unclosed × Tree) : Type 0
  where
    pub opens : List Unclosed
    pub value : Tree
    pub same : result ≡ reduced next opens value
    pub stands : Opens s fs opens
    pub unfolds : UnfoldsTo s (term_name term) value

pub reduces_first : (s : Store) (fs : List Frame) (term : TermRef) (next : Option Operator)
    (os : List Unclosed) (t : Tree) → Opens s fs os → UnfoldsTo s (term_name term) t
    → Reduces s fs term next (reduced next os t)
reduces_first s fs term next os t stands unfolds =
    record { opens = os; value = t; same = refl; stands = stands; unfolds = unfolds }

yields_by : (s : Store) (f : Frame) (o : Unclosed) (next : Option Operator) (b : Bool)
    → IsUnclosed s f o → yields (shape_of f.form) (length f.parts.items) next ≡ b
    → yields o.shape (count o.parts) next ≡ b
yields_by s f o next b is yield =
    ap (λ shape. yields shape (count o.parts) next) (sym is.shape)
    ∙ ap (λ n. yields (shape_of f.form) n next) (forest_length s o.parts f.parts.items is.parts)
    ∙ yield

-- a form that yields is completed
pub reduces_next : (old new : Store) → Keeps old new → (fs left : List Frame) → left ≡ fs
    → (f : Frame)
    (all : List Frame) → all ≡ fs ++ f ∷ [] → (term whole : TermRef) (next : Option Operator)
    (result : List Unclosed × Tree)
    → yields (shape_of f.form) (length f.parts.items) next ≡ true
    → ((o : Unclosed) (t : Tree) → IsUnclosed old f o → UnfoldsTo old (term_name term) t
    → UnfoldsTo new (term_name whole) (completed o t))
    → Reduces old all term next result → Reduces new left whole next result
reduces_next old new keeps fs left done f all is term whole next result yield complete before =
    let P : List Frame → Type 0 = λ all. Opens old all before.opens in
    let popped = opens_pop old fs f before.opens (subst P is before.stands) in
    let o = popped.last in
    let goes = yields_by old f o next true popped.is yield in
    record {
      opens = popped.others;
      value = completed o before.value;
      same = before.same ∙ ap (λ os. reduced next os before.value) popped.whole
          ∙ ap (λ b. cond b (reduced next popped.others (completed o before.value))
          (o ∷ popped.others, before.value)) goes;
      stands = subst (λ fs. Opens new fs popped.others) (sym done)
          (keeps_forms old new keeps (reverse fs) popped.others popped.are);
      unfolds = complete o before.value popped.is before.unfolds;
    }

stays_at : (s : Store) (fs gs : List Frame) (next : Option Operator) → NoneYields fs next
    → reverse fs ≡ gs → (os : List Unclosed) (t : Tree) → AreUnclosed s gs os
    → reduced next os t ≡ (os, t)
stays_at s fs [] next none e [] t are = refl
stays_at s fs [] next none e (o ∷ os) t are = absurd are
stays_at s fs (f ∷ gs) next none e [] t are = absurd are
stays_at s fs (f ∷ gs) next none e (o ∷ os) t are =
    let whole : fs ≡ reverse gs ++ f ∷ [] =
    sym (reverse-reverse fs) ∙ ap reverse e ∙ reverse-append (f ∷ []) gs in
    ap (λ b. cond b (reduced next os (completed o t)) (o ∷ os, t))
    (yields_by s f o next false are.0 (none (reverse gs) f whole))

-- and if none yields, what there is stays
pub reduces_last : (s : Store) (fs : List Frame) (term : TermRef) (next : Option Operator)
    (result : List Unclosed × Tree) → NoneYields fs next → Reduces s fs term next result
    → Opens s fs result.0 × UnfoldsTo s (term_name term) result.1
reduces_last s fs term next result none is =
    let P : List Unclosed × Tree → Type 0 = λ r. Opens s fs r.0 × UnfoldsTo s (term_name term) r.1
    in subst P
    (sym (is.same ∙ stays_at s fs (reverse fs) next none refl is.opens is.value is.stands))
    (is.stands, is.unfolds)

-- the tree of a form with its last part, where it is that part itself
pub completed_group : (s : Store) (f : Frame) (o : Unclosed) (name : Name) (t : Tree)
    → None ≡ head_of (shape_of f.form) → IsUnclosed s f o → UnfoldsTo s name t
    → UnfoldsTo s name (completed o t)
completed_group s f o name t none is unfolds =
    let P : Option Named → Type 0 = λ head. UnfoldsTo s name (headed head o.parts t) in
    subst P (none ∙ ap head_of is.shape) unfolds

-- and where it has a head
pub completed_term : (old mid new : Store) → mid ≡ old → (f : Frame) (o : Unclosed) (head : Named)
    (term : TermRef) (parts : List TermRef) → parts ≡ f.parts.items ++ term ∷ []
    → (name : Name) (t : Tree) → Some head ≡ head_of (shape_of f.form)
    → ((trees : Trees) → Stand mid parts trees → UnfoldsTo new name (tree head trees))
    → IsUnclosed old f o → UnfoldsTo old (term_name term) t → UnfoldsTo new name (completed o t)
completed_term old mid new same f o head term parts whole name t some made is unfolds =
    let P : Option Named → Type 0 = λ head. UnfoldsTo new name (headed head o.parts t) in
    let stand = stand_last old f.parts.items o.parts term t is.parts unfolds in
    subst P (some ∙ ap head_of is.shape)
    (made (with_last o.parts t)
    (subst (λ s. Stand s parts (with_last o.parts t)) (sym same)
    (subst (λ terms. Stand old terms (with_last o.parts t)) (sym whole) stand)))

-- an item is added
pub item_stands : (old new : Store) → Keeps old new → (before after : List TermRef)
    (item : TermRef) → after ≡ before ++ item ∷ [] → (ts : Trees) (t : Tree)
    → Stand old before ts → UnfoldsTo new (term_name item) t → Stand new after (with_last ts t)
item_stands old new keeps before after item is ts t stand unfolds =
    subst (λ terms. Stand new terms (with_last ts t)) (sym is)
    (stand_last new before ts item t (forest_on old new keeps ts (map term_name before) stand)
    unfolds)
