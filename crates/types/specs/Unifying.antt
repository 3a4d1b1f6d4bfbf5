-- What unification comes to.
use Rattle.std.specs.Prelude.{◌≡◌, ◌≢◌, ◌↔◌, ◌⊎◌, ⊤, ℕ, Bool, true, false, [], ◌∷◌, Some, slice_get}
use Rattle.std.specs.declared.alloc.AllocError.{AllocError}
use Rattle.ra_ap_intern.specs.Handle.{ref_name}
use Rattle.ra_ap_intern.specs.Name.{Name}
use Rattle.ra_ap_intern.specs.State.{State}
use Rattle.ra_ap_intern.specs.declared.kind.Values.{Values}
use Rattle.ra_ap_intern.specs.declared.storage.Ref.{Ref}
use Rattle.ra_ap_intern.specs.Tree.{Trees, tree, no_more, one_more}
use Rattle.types.specs.Tree.{Tree, unknowns, UnfoldsTo}
use Rattle.types.specs.Types.{Kind, Shape, unknown, function, pair, shape_at, unknown_shape}
use Rattle.types.specs.declared.error.TypeError.{TypeError}
use Rattle.types.specs.declared.error.TypeError.TheVariants as error
use Rattle.types.specs.declared.unknowns.Known.TheVariants as known
use Rattle.types.specs.declared.unknowns.Unknowns.{Unknowns}
use Rattle.types.specs.declared.value.TypeNode.{TypeNode}

-- a kind over trees, or what is in the place of an unknown type
abbrev pub placed : (ℕ → Tree) → Kind → Trees Kind → Tree
placed v (unknown number) no_more = v number
placed v kind parts = tree kind parts

abbrev mutual
  -- a tree with these in the place of unknown types
  pub replaced : (ℕ → Tree) → Tree → Tree
  replaced v (tree kind parts) = placed v kind (all_replaced v parts)

  -- and in all of these
  pub all_replaced : (ℕ → Tree) → Trees Kind → Trees Kind
  all_replaced v no_more = no_more
  all_replaced v (one_more t ts) = one_more (replaced v t) (all_replaced v ts)

-- the name reads a type, and so do its parts
abbrev pub HasTree : State TypeNode → Name → Type 0
HasTree s n = (t : Tree) × UnfoldsTo s n t

module _ (s : State TypeNode) where
  -- the name's type is this tree, where unknown types are these
  abbrev pub StandsFor : (ℕ → Tree) → Name → Tree → Type 0
  StandsFor v n whole = (t : Tree) × UnfoldsTo s n t × (whole ≡ replaced v t)

  -- unknown types are these by what is known of them
  abbrev pub Solves : Unknowns → (ℕ → Tree) → Type 0
  Solves u v = (number : ℕ) (handle : Ref (Values TypeNode)) →
      slice_get u.known.items number ≡ Some (known.Is handle) → StandsFor v (ref_name handle) (v number)

  -- two types are one tree then
  abbrev pub AreOne : (ℕ → Tree) → Name → Name → Type 0
  AreOne v n m = (tree : Tree) × StandsFor v n tree × StandsFor v m tree

  -- they are one tree by no types in the place of unknown ones
  abbrev pub AreApart : Name → Name → Type 0
  AreApart n m = (v : ℕ → Tree) → AreOne v n m → ⊥

  -- they are one tree by no solution
  abbrev pub HaveNoUnifier : Unknowns → Name → Name → Type 0
  HaveNoUnifier u n m = (v : ℕ → Tree) → Solves u v → AreOne v n m → ⊥

  -- an unknown type is this one by no solution
  abbrev pub IsNever : Unknowns → ℕ → Name → Type 0
  IsNever u number n = (v : ℕ → Tree) → Solves u v → StandsFor v n (v number) → ⊥

  -- the one is each tree that the other is
  abbrev pub Agree : (ℕ → Tree) → Name → Name → Type 0
  Agree v n m = (tree : Tree) → StandsFor v n tree ↔ StandsFor v m tree

  -- the solutions are those of before by which the two types are one tree
  pub record Unifies (old new : Unknowns) (n m : Name) : Type 0 where
    pub general : (v : ℕ → Tree) → Solves old v → AreOne v n m → Solves new v
    pub solved : (v : ℕ → Tree) → Solves new v → Solves old v
    pub equal : (v : ℕ → Tree) → Solves new v → Agree v n m

  -- the solutions are those of before by which an unknown type is this one
  abbrev pub Binds : (old new : Unknowns) → ℕ → Name → Type 0
  Binds old new number n = (v : ℕ → Tree) → Solves new v ↔ (Solves old v × StandsFor v n (v number))

-- no type is known to be an unknown type
abbrev pub IsFree : Unknowns → ℕ → Type 0
IsFree u number = (handle : Ref (Values TypeNode)) → slice_get u.known.items number ≢ Some (known.Is handle)

-- nothing is known of an unknown type
abbrev pub IsOpen : Unknowns → ℕ → Type 0
IsOpen u number = (level : ℕ) × (slice_get u.known.items number ≡ Some (known.Nothing level))

-- whether it is a function, or else a pair
abbrev pub either : Bool → Kind
either true = function
either false = pair

-- a function or a pair of these
abbrev pub two : Bool → Name → Name → Shape
two kind first second = (either kind, first ∷ second ∷ [])

-- two types of one kind, with these parts
abbrev pub HaveParts : State TypeNode → (n m a b c d : Name) → Type 0
HaveParts s n m a b c d =
    (kind : Bool) × (shape_at s n ≡ Some (two kind a b)) × (shape_at s m ≡ Some (two kind c d))

-- a name that reads no unknown type
abbrev pub IsNoUnknown : State TypeNode → Name → Type 0
IsNoUnknown s n = (number : ℕ) → shape_at s n ≢ Some (unknown_shape number)

-- an error that says of two types that nothing makes them equal
abbrev pub IsConflict : TypeError → Type 0
IsConflict (error.Expected what) = ⊥
IsConflict (error.Unended word) = ⊥
IsConflict (error.Unbound name) = ⊥
IsConflict (error.Clash first second) = ⊤
IsConflict (error.Infinite first second) = ⊤
IsConflict error.TooLarge = ⊥
IsConflict error.NoOperand = ⊥
IsConflict (error.OutOfMemory why) = ⊥
IsConflict (error.Refused why) = ⊥

-- an error that says that, or that there was no memory
abbrev pub IsRefusal : TypeError → Type 0
IsRefusal e = IsConflict e ⊎ ((why : AllocError) × (e ≡ error.OutOfMemory why))

-- a solution that leaves each unknown type as it is of which nothing is known
pub record IsPrincipal (s : State TypeNode) (u : Unknowns) (v : ℕ → Tree) : Type 0 where
  pub solves : Solves s u v
  pub free : (number : ℕ) → IsFree u number → v number ≡ unknowns number

abbrev pub IsSolvable : State TypeNode → Unknowns → Type 0
IsSolvable s u = (v : ℕ → Tree) × IsPrincipal s u v
