-- What is marked is registered, and marked once: what keeps it so.
use Rattle.std.proofs.Common.{◌≡◌, ◌≤◌, Bool, true, false, cond, List, [], ◌∷◌, ◌++◌, length, None, is_some, sym, ap, ◌∙◌, inl, inr, arith}
use Rattle.std.specs.FinMap.{FinMap, get, insert, empty, len, keys, entries, contains_key, contains_key-keys, len-entries}
use Rattle.std.specs.List.{IsDistinct, list_any}
use Rattle.std.proofs.lemmas.Bool.{false_from_ne_true, false≢true}
use Rattle.std.proofs.lemmas.List.{length-map}
use Rattle.std.proofs.lemmas.Map.Keys.{IsDistinct-push}
use Rattle.std.proofs.lemmas.Map.Made.{length-le_from_is_member}
use Rattle.intern_store.specs.declared.names.Name.{Name}
use Rattle.intern_marks.specs.Marks.{IsSound}
use Rattle.intern_marks.specs.Names.{has, name_cmp}
use Rattle.intern_marks.proofs.Names.{same_as_itself, same_name_is_equivalence, has_cases, told, get-inserted}

pub nothing_sound : IsSound empty []
unfolding IsDistinct
nothing_sound = record { known = λ x among. absurd (cc); once = tt }

module _ (m : FinMap name_cmp Bool) (marked : List Name) (sound : IsSound m marked) where
  -- no more names are marked than registered
  pub fewer : length marked ≤ len m
  fewer =
      let most = length-le_from_is_member same_name_is_equivalence marked (keys m) sound.once
      (λ q among. ap (λ (test : Name → Bool). list_any test (keys m)) (λ i y. sym (told q y) i) ∙ sym (contains_key-keys m q) ∙ sound.known q among) in
      let many : length (keys m) ≡ len m = length-map (entries m) (λ e. e.0) ∙ sym (len-entries m) in
      omega arith

  module _ (x : Name) where
    -- what isn't registered isn't marked
    pub unmarked : get m x ≡ None → has marked x ≡ false
    unmarked unknown = false_from_ne_true _ (λ among. let gone = sym (ap is_some unknown) ∙ sound.known x among in false≢true gone)

    pub sound_more : contains_key m x ≡ true → has marked x ≡ false → IsSound m (marked ++ x ∷ [])
    sound_more there new = record {
      known = λ y among. elim (has_cases marked x y among) [ inl old ↦ sound.known y old | inr is ↦ ap (contains_key m) is ∙ there ];
      once = IsDistinct-push same_name_is_equivalence marked x sound.once new;
    }

    pub sound_registered : (counted : Bool) → IsSound (insert m x counted) marked
    sound_registered counted = record { known = λ y among. let there = sound.known y among in grind (arith, there, get-inserted); once = sound.once }

-- a name is registered that wasn't, and is marked or not
pub sound_added : (m : FinMap name_cmp Bool) (marked : List Name) (x : Name) (counted b : Bool) → get m x ≡ None → IsSound m marked
    → IsSound (insert m x counted) (cond b (marked ++ x ∷ []) marked)
sound_added m marked x counted true unknown sound =
    sound_more (insert m x counted) marked (sound_registered m marked sound x counted) x (grind (arith, get-inserted, same_as_itself)) (unmarked m marked sound x unknown)
sound_added m marked x counted false unknown sound = sound_registered m marked sound x counted
