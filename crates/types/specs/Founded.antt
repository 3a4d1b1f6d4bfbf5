-- Unknown types that are founded: none is known to be itself, and each is one that was added.
use Rattle.std.specs.Prelude.{◌≡◌, ℕ, zero, suc, ◌<◌, List, length, map, Option, None, Some, is_some, slice_get}
use Rattle.std.specs.List.{count_by}
use Rattle.ra_ap_intern.specs.Handle.{ref_name}
use Rattle.ra_ap_intern.specs.Name.{Name}
use Rattle.ra_ap_intern.specs.State.{State}
use Rattle.ra_ap_intern.specs.declared.kind.Values.{Values}
use Rattle.ra_ap_intern.specs.declared.storage.Ref.{Ref}
use Rattle.types.specs.Tree.{Tree, Occurs, UnfoldsTo}
use Rattle.types.specs.Types.{shape_at, unknown_shape}
use Rattle.types.specs.declared.unknowns.Known.{Known}
use Rattle.types.specs.declared.unknowns.Known.TheVariants as known
use Rattle.types.specs.declared.unknowns.Unknowns.{Unknowns}
use Rattle.types.specs.declared.value.TypeNode.{TypeNode}

-- what an unknown type is known to be
abbrev pub known_type : Known → Option (Ref (Values TypeNode))
known_type (known.Nothing level) = None
known_type (known.Is handle) = Some handle

-- what each is known to be
abbrev pub known_types : Unknowns → List (Option (Ref (Values TypeNode)))
known_types u = map known_type u.known.items

-- so many known types at most lead from an unknown one to one that isn't known, or to another type
abbrev pub Ends : State TypeNode → List (Option (Ref (Values TypeNode))) → ℕ → ℕ → Type 0
Ends s types zero number =
    (handle : Ref (Values TypeNode)) → slice_get types number ≡ Some (Some handle) → ⊥
Ends s types (suc most) number = (handle : Ref (Values TypeNode)) (next : ℕ)
    → slice_get types number ≡ Some (Some handle)
    → shape_at s (ref_name handle) ≡ Some (unknown_shape next) → Ends s types most next

module _ (s : State TypeNode) (types : List (Option (Ref (Values TypeNode)))) where
  -- each unknown type in its tree was added
  abbrev pub IsOver : Name → Type 0
  IsOver n = (t : Tree) × UnfoldsTo s n t × ((number : ℕ) → Occurs number t → number < length types)

  -- no unknown type that is known
  abbrev pub IsResolved : Name → Type 0
  IsResolved n = (number : ℕ) (handle : Ref (Values TypeNode)) → shape_at s n ≡ Some (unknown_shape number)
      → slice_get types number ≡ Some (Some handle) → ⊥

  -- no more known types are in a row than there are, and they are over unknown ones that were added
  pub record IsFounded : Type 0 where
    pub ends : (number : ℕ) → Ends s types (count_by is_some types) number
    pub over : (number : ℕ) (handle : Ref (Values TypeNode)) → slice_get types number ≡ Some (Some handle)
        → IsOver (ref_name handle)

  -- two types over founded ones
  pub record AreOver (n m : Name) : Type 0 where
    pub founded : IsFounded
    pub first : IsOver n
    pub second : IsOver m

  -- neither of which is an unknown type that is known
  pub record AreResolved (n m : Name) : Type 0 where
    pub over : AreOver n m
    pub first : IsResolved n
    pub second : IsResolved m

-- as many as there were are founded
abbrev pub StaysFounded : State TypeNode → (old new : List (Option (Ref (Values TypeNode)))) → Type 0
StaysFounded s old new = IsFounded s new × (length new ≡ length old)
