-- A world as contracts see it.
use Rattle.std.specs.Prelude.{ℕ, Bool, List, [], ◌∷◌, ◌++◌, refl}
use Rattle.std.specs.Coded.{Coded, code_by, coded×, coded_list, coded_ℕ}
use Rattle.ra_ap_intern.specs.Families.{entries_of, kept_named, sliced_children}
use Rattle.ra_ap_intern.specs.Name.{Name}
use Rattle.ra_ap_intern.specs.Reach.{Entry}
use Rattle.ra_ap_intern.specs.Names.{has}
use Rattle.ra_ap_intern.specs.Sliced.{Sliced, sliced_eq, sliced_code}
use Rattle.ra_ap_intern.specs.State.{State, state_code}
use Rattle.intern_calls.specs.Held.{Held, held_code}

-- the equalities of the types, and what their values declare
pub record Kinds (C G H I : Type 0) : Type 0 where
  pub counted_eq : C → C → Bool
  pub value_eq : G → G → Bool
  pub slice_eq : Sliced H I → Sliced H I → Bool
  pub value_children : G → List Name
  pub slice_children : Sliced H I → List Name

-- the storages, the table, and what the slots hold
pub record WorldState (C G H I : Type 0) : Type 0 where
  pub counted : State C
  pub values : State G
  pub slices : State (Sliced H I)
  pub table : State (List ℕ)
  pub slots : List Held

abbrev pub world_code : {C G H I : Type 0} → Coded C → Coded G → Coded H → Coded I
    → Coded (WorldState C G H I)
world_code {C} {G} {H} {I} c g h i =
    code_by (State C × (State G × (State (Sliced H I) × (State (List ℕ) × List Held))))
    (coded× (state_code c) (coded× (state_code g) (coded× (state_code (sliced_code h i))
    (coded× (state_code (coded_list coded_ℕ)) (coded_list held_code)))))
    (λ w. (w.counted, (w.values, (w.slices, (w.table, w.slots)))))
    (λ p. record {
      counted = p.0;
      values = p.1.0;
      slices = p.1.1.0;
      table = p.1.1.1.0;
      slots = p.1.1.1.1;
    })
    (λ _. refl)

module _ {C G H I : Type 0} where
  abbrev pub kinds_of : (C → C → Bool) → (G → G → Bool) → (H → H → Bool) → (I → I → Bool)
      → (G → List Name) → (H → List Name) → (List I → List Name) → Kinds C G H I
  kinds_of counted values headers items value_children header_children item_children = record {
    counted_eq = counted;
    value_eq = values;
    slice_eq = sliced_eq headers items;
    value_children = value_children;
    slice_children = sliced_children header_children item_children;
  }

  -- the numbers of the storages and of the table
  abbrev pub numbers_of : WorldState C G H I → List ℕ
  numbers_of w = w.counted.number ∷ w.values.number ∷ w.slices.number ∷ w.table.number ∷ []

  -- the entries that are collected
  abbrev pub entries : Kinds C G H I → WorldState C G H I → List Entry
  entries kinds w = entries_of kinds.value_children w.values
      ++ entries_of kinds.slice_children w.slices

  -- the world with only those of its collected entries whose names are listed
  abbrev pub swept : WorldState C G H I → List Name → WorldState C G H I
  swept w names = record w {
    values = kept_named w.values (has names);
    slices = kept_named w.slices (has names);
  }
