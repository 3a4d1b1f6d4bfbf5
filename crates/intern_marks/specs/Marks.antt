-- The state of a collector, and its steps.
use Rattle.std.specs.Prelude.{ℕ, ◌+◌, ◌-◌, ◌^◌, min, Bool, true, false, not, ◌&&◌, ◌||◌, if◌then◌else◌, refl}
use Rattle.std.specs.Prelude.{List, [], ◌∷◌, ◌++◌, take, drop, Option, Some, None, ◌≡◌}
use Rattle.std.specs.Coded.{Coded, code_by, coded×, coded_list, coded_bool, coded_ℕ}
use Rattle.std.specs.FinMap as map
use Rattle.std.specs.List.{fold, IsDistinct}
use Rattle.intern_store.specs.Named.{same_name}
use Rattle.intern_store.specs.declared.names.Name.{Name}
use Rattle.intern_marks.specs.Names.{has, name_cmp}

-- what is registered, marked and visited, and how much was done
pub record Marks : Type 0 where
  -- of each registered name, whether its entry was counted
  pub registered : map.FinMap name_cmp Bool
  -- in the order in which they were marked, no name twice
  pub marked : List Name
  -- how many of these were visited, from the first on; the others are pending
  pub visits : ℕ
  pub calls : ℕ

abbrev pub visited : Marks → List Name
visited m = take m.visits m.marked

abbrev pub pending : Marks → List Name
pending m = drop m.visits m.marked

abbrev pub name_code : Coded Name
name_code = code_by (ℕ × ℕ) (coded× coded_ℕ coded_ℕ) (λ n. (n.storage, n.birth))
    (λ p. record { storage = p.0; birth = p.1 }) (λ _. refl)

abbrev pub marks_code : Coded Marks
marks_code = code_by (map.FinMap name_cmp Bool × (List Name × (ℕ × ℕ)))
    (coded× (map.code name_code coded_bool) (coded× (coded_list name_code) (coded× coded_ℕ coded_ℕ)))
    (λ m. (m.registered, (m.marked, (m.visits, m.calls))))
    (λ p. record { registered = p.0; marked = p.1.0; visits = p.1.1.0; calls = p.1.1.1 }) (λ _. refl)

-- names are registered, and nothing is done
abbrev pub fresh : map.FinMap name_cmp Bool → Marks
fresh registered = record { registered = registered; marked = []; visits = 0; calls = 0 }

-- with one more name, marked or not
abbrev pub added : Marks → Name → Bool → Bool → Marks
added m name counted is_marked = record m {
  registered = map.insert m.registered name counted;
  marked = if is_marked then m.marked ++ name ∷ [] else m.marked;
}

-- whether what is known of a name lets it be marked: it is registered, and not counted unless
-- counted names may be
abbrev pub may_be : Bool → Option Bool → Bool
may_be counted_too None = false
may_be counted_too (Some counted) = counted_too || not counted

-- whether a name is marked next: it may be, and isn't
abbrev pub is_next : Bool → Marks → Name → Bool
is_next counted_too m name = may_be counted_too (map.get m.registered name) && not (has m.marked name)

-- with a name marked, where it may be and isn't
unfoldable pub placed : Bool → Marks → Name → Marks
placed counted_too m name = record m {
  marked = if is_next counted_too m name then m.marked ++ name ∷ [] else m.marked;
}

-- whether a mark call marks the name: it is registered, not counted, and not marked
abbrev pub marks_now : Marks → Name → Bool
marks_now m name = is_next false m name

-- one call more, unless the tally is full
abbrev pub tick : ℕ → ℕ
tick calls = min (calls + 1) (2 ^ 64 - 1)

-- a mark call
abbrev pub mark : Marks → Name → Marks
mark m name = record (placed false m name) { calls = tick m.calls }

-- a mark call for each name, in order
abbrev pub marks : Marks → List Name → Marks
marks m names = fold mark m names

-- a root is marked where it is registered, and no tally changes
abbrev pub root : Marks → Name → Marks
root m name = placed true m name

-- with no call in the tally
abbrev pub untold : Marks → Marks
untold m = record m { calls = 0 }

-- each name is placed as a root
abbrev pub roots : Marks → List Name → Marks
roots m names = fold root m names

-- the visit of the first pending name begins
abbrev pub begun : Marks → Marks
begun m = record m { visits = m.visits + 1 }

-- what is marked is registered, and is marked once
pub record IsSound (registered : map.FinMap name_cmp Bool) (marked : List Name) : Type 0 where
  pub known : (name : Name) → has marked name ≡ true → map.contains_key registered name ≡ true
  pub once : IsDistinct same_name marked
