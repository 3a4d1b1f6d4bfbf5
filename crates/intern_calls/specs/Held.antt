-- What slots hold.
use Rattle.std.specs.Prelude.{◌≡◌, ℕ, ◌+◌, Bool, true, false, ◌==◌, if◌then◌else◌, List, Option, Some, None, refl}
use Rattle.std.specs.Coded.{Coded, code_by, coded×, coded_ℕ}
use Rattle.std.specs.List.{slice_index_or}
use Rattle.ra_ap_intern.specs.Name.{Name}
use Rattle.ra_ap_intern.specs.Named.{same_name}
use Rattle.ra_ap_intern.specs.Handle.{name_of, ref_name}
use Rattle.ra_ap_intern.specs.Symbols.{Named, same_named, symbol_name}
use Rattle.ra_ap_intern.specs.Symbols.Named.{preset, entry}
use Rattle.intern_calls.specs.declared.slot.Slot.{Slot}
use Rattle.intern_calls.specs.declared.slot.Slot.TheVariants as slot

-- the storage that a handle is for
pub data Home : Type 0 where
  counted : Home
  values : Home
  slices : Home

-- what a slot holds: an owned handle or a reference, by its storage and its name, or a symbol
pub data Held : Type 0 where
  nothing : Held
  owned : Home → Name → Held
  reference : Home → Name → Held
  symbol : Named → Held

abbrev pub seen : {C G S : Type 0} → Slot C G S → Held
seen slot.Empty = nothing
seen (slot.Counted h) = owned counted (name_of h)
seen (slot.CountedRef r) = reference counted (ref_name r)
seen (slot.Value h) = owned values (name_of h)
seen (slot.ValueRef r) = reference values (ref_name r)
seen (slot.Slice h) = owned slices (name_of h)
seen (slot.SliceRef r) = reference slices (ref_name r)
seen (slot.Symbol s) = symbol (symbol_name s)

-- what the slot of a number holds; one that isn't there holds nothing
abbrev pub held_at : List Held → ℕ → Held
held_at slots n = slice_index_or slots n nothing

abbrev pub same_home : Home → Home → Bool
same_home counted counted = true
same_home values values = true
same_home slices slices = true
same_home _ _ = false

-- whether two handles are equal, where they are of one kind
abbrev pub same_in : Bool → Name → Name → Option Bool
same_in true n m = Some (same_name n m)
same_in false n m = None

abbrev pub same : Held → Held → Option Bool
same (owned h n) (owned k m) = same_in (same_home h k) n m
same (reference h n) (reference k m) = same_in (same_home h k) n m
same (symbol a) (symbol b) = Some (same_named a b)
same _ _ = None

-- what a release gives up: an owned handle or a symbol
abbrev pub owner : Held → Held
owner (owned h n) = owned h n
owner (symbol s) = symbol s
owner _ = nothing

abbrev pub is_owner : Held → Bool
is_owner (owned h n) = true
is_owner (symbol s) = true
is_owner _ = false

abbrev pub is_symbol : Held → Bool
is_symbol (symbol s) = true
is_symbol _ = false

-- what a slot holds, as three numbers: its kind, and what it names
abbrev pub named_numbers : Named → ℕ × (ℕ × ℕ)
named_numbers (preset p) = (7, (p, 0))
named_numbers (entry n) = (8, (n.storage, n.birth))

abbrev pub home_number : Home → ℕ
home_number counted = 0
home_number values = 1
home_number slices = 2

abbrev pub held_numbers : Held → ℕ × (ℕ × ℕ)
held_numbers nothing = (0, (0, 0))
held_numbers (owned h n) = (home_number h + 1, (n.storage, n.birth))
held_numbers (reference h n) = (home_number h + 4, (n.storage, n.birth))
held_numbers (symbol s) = named_numbers s

abbrev pub name_by : ℕ × ℕ → Name
name_by p = record { storage = p.0; birth = p.1 }

abbrev pub held_by : ℕ × (ℕ × ℕ) → Held
held_by p =
    if p.0 == 1 then owned counted (name_by p.1)
    else if p.0 == 2 then owned values (name_by p.1)
    else if p.0 == 3 then owned slices (name_by p.1)
    else if p.0 == 4 then reference counted (name_by p.1)
    else if p.0 == 5 then reference values (name_by p.1)
    else if p.0 == 6 then reference slices (name_by p.1)
    else if p.0 == 7 then symbol (preset p.1.0)
    else if p.0 == 8 then symbol (entry (name_by p.1))
    else nothing

pub held_again : (h : Held) → held_by (held_numbers h) ≡ h
held_again nothing = refl
held_again (owned counted n) = refl
held_again (owned values n) = refl
held_again (owned slices n) = refl
held_again (reference counted n) = refl
held_again (reference values n) = refl
held_again (reference slices n) = refl
held_again (symbol (preset p)) = refl
held_again (symbol (entry n)) = refl

abbrev pub held_code : Coded Held
held_code =
    code_by (ℕ × (ℕ × ℕ)) (coded× coded_ℕ (coded× coded_ℕ coded_ℕ))
    held_numbers held_by held_again

-- the slots, and how many more there is room for
pub record SlotList : Type 0 where
  pub held : List Held
  pub room : ℕ
