-- Runs over the tokens of a program.
use Rattle.std.proofs.Common.{◌≡◌, ℕ, ◌+◌, ◌<◌, ◌≤◌, Bool, true, false, ◌&&◌, List, [], ◌∷◌, length, get_or, drop, drop-cons, add-one, Option, Some, None, is_none, refl, sym, ap, subst, ◌∙◌}
use Rattle.std.proofs.lemmas.List.{drop_all}
use Rattle.std.specs.Prelude.{option_and_then, if◌then◌else◌}
use Rattle.intern_terms.specs.Tree.{Tree, Trees}
use Rattle.intern_terms.specs.declared.handle.TermRef.{TermRef}
use Rattle.syntax.specs.Frames.{no_frame}
use Rattle.syntax.specs.Lexeme.{Lexeme, lexeme, lexemes}
use Rattle.syntax.specs.Machine.{Unclosed, Reading, is_nil, step, run, start, whole_items, program}
use Rattle.syntax.specs.Parsing.{Store, Stand, IsValue, Opens, Reads, Reaches}
use Rattle.syntax.specs.declared.machine.Machine.{Machine}
use Rattle.syntax.specs.declared.token.PlacedToken.{PlacedToken}
use Rattle.syntax.proofs.Steps.{none_open}

-- what was read so far, and these tokens, are the whole run
pub record RunsOn (s : Store) (m : Machine) (all : List Lexeme) (rest : List PlacedToken) : Type 0
  where
    pub reading : Reading
    pub same : run start all ≡ run reading (lexemes rest)
    pub reads : Reads s m reading

pub run_first : (s : Store) (m : Machine) (tokens : List PlacedToken) → m.items.items ≡ []
    → m.frames.items ≡ [] → m.value ≡ None → RunsOn s m (lexemes tokens) tokens
run_first s m tokens items frames value = record {
  reading = start;
  same = refl;
  reads = record {
    items = subst (λ terms. Stand s terms start.items) (sym items) tt;
    opens = subst (λ fs. Opens s fs []) (sym frames) tt;
    value = subst (λ v. IsValue s v None) (sym value) tt;
  };
}

pub run_next : (s t : Store) (m n : Machine) (all : List Lexeme) (rest more : List PlacedToken)
    (x : PlacedToken) → rest ≡ x ∷ more → RunsOn s m all rest
    → ((r : Reading) → Reads s m r → Reaches t n (step r (lexeme x.token)))
    → RunsOn t n all more
run_next s t m n all rest more x is so goes =
    let next = goes so.reading so.reads in
    record {
      reading = next.0;
      same = so.same ∙ ap (λ ts. run so.reading (lexemes ts)) is
          ∙ ap (option_and_then (λ r. run r (lexemes more))) next.1;
      reads = next.2;
    }

pub run_stuck : (s : Store) (m : Machine) (all : List Lexeme) (rest more : List PlacedToken)
    (x : PlacedToken) → rest ≡ x ∷ more → RunsOn s m all rest
    → ((r : Reading) → Reads s m r → step r (lexeme x.token) ≡ None) → program all ≡ None
run_stuck s m all rest more x is so stuck =
    ap (option_and_then (λ r. whole_items r.items r.opens r.value))
    (so.same ∙ ap (λ ts. run so.reading (lexemes ts)) is
    ∙ ap (option_and_then (λ r. run r (lexemes more))) (stuck so.reading so.reads))

-- whether what was read is whole
whole_by : (items : Trees) (os : List Unclosed) (v : Option Tree) (b : Bool)
    → (is_nil os && is_none v) ≡ b
    → whole_items items os v ≡ (if b then Some items else None)
whole_by items [] None true is = refl
whole_by items [] None false is = absurd (cc)
whole_by items [] (Some t) true is = absurd (cc)
whole_by items [] (Some t) false is = refl
whole_by items (o ∷ os) v true is = absurd (cc)
whole_by items (o ∷ os) None false is = refl
whole_by items (o ∷ os) (Some t) false is = refl

none_by : (s : Store) (v : Option TermRef) (o : Option Tree) → IsValue s v o
    → is_none v ≡ is_none o
none_by s None None is = refl
none_by s None (Some t) is = absurd is
none_by s (Some n) None is = absurd is
none_by s (Some n) (Some t) is = refl

whole_at : (s : Store) (m : Machine) (all : List Lexeme) (so : RunsOn s m all []) (b : Bool)
    → (no_frame m.frames.items && is_none m.value) ≡ b
    → program all ≡ (if b then Some so.reading.items else None)
whole_at s m all so b is =
    let r = so.reading in
    ap (option_and_then (λ r. whole_items r.items r.opens r.value)) so.same
    ∙ whole_by r.items r.opens r.value b
    (ap (λ e. e && is_none r.value)
    (sym (none_open s m.frames.items r.opens so.reads.opens))
    ∙ ap (λ e. no_frame m.frames.items && e)
    (sym (none_by s m.value r.value so.reads.value))
    ∙ is)

pub run_whole : (s : Store) (m : Machine) (all : List Lexeme) → RunsOn s m all []
    → (no_frame m.frames.items && is_none m.value) ≡ true
    → (items : Trees) × (program all ≡ Some items) × Stand s m.items.items items
run_whole s m all so is = (so.reading.items, whole_at s m all so true is, so.reads.items)

pub run_unfinished : (s : Store) (m : Machine) (all : List Lexeme) → RunsOn s m all []
    → (no_frame m.frames.items && is_none m.value) ≡ false → program all ≡ None
run_unfinished s m all so is = whole_at s m all so false is

-- the tokens from one on
pub drop_next : (tokens : List PlacedToken) (i : ℕ) (d : PlacedToken) → i < length tokens
    → drop i tokens ≡ get_or tokens i d ∷ drop (i + 1) tokens
drop_next tokens i d below =
    drop-cons tokens i d below
    ∙ ap (λ k. get_or tokens i d ∷ drop k tokens) (sym (add-one i))

pub runs_out : (s : Store) (m : Machine) (tokens : List PlacedToken) (i : ℕ)
    → length tokens ≤ i → RunsOn s m (lexemes tokens) (drop i tokens)
    → RunsOn s m (lexemes tokens) []
runs_out s m tokens i all so = subst (RunsOn s m (lexemes tokens)) (drop_all i tokens all) so
