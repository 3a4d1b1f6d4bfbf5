-- What the parser has read, as trees.
use Rattle.std.specs.Prelude.{◌≡◌, List, [], ◌∷◌, Option, Some, None, map as list_map, reverse}
use Rattle.intern_terms.specs.Handle.{term_name}
use Rattle.intern_terms.specs.Tree.{Tree, Trees, UnfoldsTo, AllUnfold}
use Rattle.intern_terms.specs.declared.handle.TermRef.{TermRef}
use Rattle.ra_ap_intern.specs.Name.{Name}
use Rattle.ra_ap_intern.specs.Sliced.{Sliced}
use Rattle.ra_ap_intern.specs.State.{State}
use Rattle.ra_ap_intern.specs.declared.symbol.Symbol.{Symbol}
use Rattle.syntax.specs.Frames.{shape_of}
use Rattle.syntax.specs.Machine.{Unclosed, Reading}
use Rattle.syntax.specs.declared.fault.Stop.{Stop}
use Rattle.syntax.specs.declared.fault.Stop.TheVariants as stop
use Rattle.syntax.specs.declared.machine.Frame.{Frame}
use Rattle.syntax.specs.declared.machine.Machine.{Machine}

-- a store of terms
abbrev pub Store : Type 0
Store = State (Sliced Symbol TermRef)

-- a fact, where a token can't stand where it does
abbrev pub OnUnexpected : Stop → Type 0 → Type 0
OnUnexpected (stop.Unexpected error) P = P
OnUnexpected (stop.Fault fault) P = Unit {0}

-- a stop is no fault
abbrev pub IsUnexpected : Stop → Type 0
IsUnexpected (stop.Unexpected error) = Unit {0}
IsUnexpected (stop.Fault fault) = ⊥

-- each tree of an earlier store is one of a later
abbrev pub Keeps : Store → Store → Type 0
Keeps old new = (name : Name) (t : Tree) → UnfoldsTo old name t → UnfoldsTo new name t

-- terms stand for trees, one by one
abbrev pub Stand : Store → List TermRef → Trees → Type 0
Stand s terms trees = AllUnfold s (list_map term_name terms) trees

-- a frame stands for an open form
pub record IsUnclosed (s : Store) (f : Frame) (o : Unclosed) : Type 0 where
  pub shape : shape_of f.form ≡ o.shape
  pub parts : Stand s f.parts.items o.parts

abbrev pub AreUnclosed : Store → List Frame → List Unclosed → Type 0
AreUnclosed s [] [] = Unit {0}
AreUnclosed s [] (o ∷ os) = ⊥
AreUnclosed s (f ∷ fs) [] = ⊥
AreUnclosed s (f ∷ fs) (o ∷ os) = IsUnclosed s f o × AreUnclosed s fs os

abbrev pub IsValue : Store → Option TermRef → Option Tree → Type 0
IsValue s None None = Unit {0}
IsValue s None (Some t) = ⊥
IsValue s (Some term) None = ⊥
IsValue s (Some term) (Some t) = UnfoldsTo s (term_name term) t

-- frames stand for open forms: the last frame is the innermost
abbrev pub Opens : Store → List Frame → List Unclosed → Type 0
Opens s fs os = AreUnclosed s (reverse fs) os

-- what was read, as trees
pub record Reads (s : Store) (m : Machine) (r : Reading) : Type 0 where
  pub items : Stand s m.items.items r.items
  pub opens : Opens s m.frames.items r.opens
  pub value : IsValue s m.value r.value

-- what was read, but for the expression before the next token
pub record ReadsBefore (s : Store) (m : Machine) (ts : Trees) (os : List Unclosed) : Type 0 where
  pub items : Stand s m.items.items ts
  pub opens : Opens s m.frames.items os

-- what was read is the reading that there is
abbrev pub Reaches : Store → Machine → Option Reading → Type 0
Reaches s m next = (r : Reading) × (next ≡ Some r) × Reads s m r
