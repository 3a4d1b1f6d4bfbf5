-- What closing a scope does, and when a declaration is refused.
use Rattle.std.specs.Prelude.{◌≡◌, ◌⊎◌, List, [], ◌∷◌, reverse, map as list_map, false, Option, Some, None, Result, Ok, Err}
use Rattle.ra_ap_intern.specs.Handle.{handle_of, name_of}
use Rattle.ra_ap_intern.specs.Name.{Name}
use Rattle.ra_ap_intern.specs.Refusal.{Refusal}
use Rattle.ra_ap_intern.specs.Refusal.TheVariants.{OutOfMemory}
use Rattle.ra_ap_intern.specs.Refused.{Refused}
use Rattle.ra_ap_intern.specs.State.{State, due, released, zero_count}
use Rattle.ra_ap_intern.specs.declared.owed.Owed.{Owed}

-- the names of handles, the last first
abbrev pub last_first : {K : Type 0} → List (Owed K) → List Name
last_first handles = reverse (list_map (λ h. name_of (handle_of h)) handles)

-- the storage once names were released, the names that are left, and why their first was refused
pub record Closed (V : Type 0) : Type 0 where
  pub state : State V
  pub left : List Name
  pub why : Option Refusal

module _ {V : Type 0} where
  -- where the first name is refused nothing is released, else the rest is
  abbrev pub unless_refused : Option Refusal → State V → List Name → Closed V → Closed V
  unless_refused (Some why) s names rest = record { state = s; left = names; why = Some why }
  unless_refused None s names rest = rest

  -- the names are released in order, up to the first that is refused
  abbrev pub closed : State V → List Name → Closed V
  closed s [] = record { state = s; left = []; why = None }
  closed s (n ∷ rest) =
      unless_refused (due s n zero_count) s (n ∷ rest) (closed (released false s n.birth) rest)

  -- a closing is refused as the first release that is, with the names that are left
  abbrev pub IsClosed : Result Unit (Refused (List Name)) → Closed V → Type 0
  IsClosed (Ok _) end = end.why ≡ None
  IsClosed (Err refused) end = (end.why ≡ Some refused.why) × (end.left ≡ refused.back)

-- a declaration is refused for what is due, or for want of memory
abbrev pub IsRefused : {A : Type 0} → Result A Refusal → Option Refusal → Type 0
IsRefused (Ok _) due = due ≡ None
IsRefused (Err why) due = (due ≡ Some why) ⊎ (why ≡ OutOfMemory)
