-- How many names are reached.
use Rattle.std.proofs.Common.{◌≡◌, ◌≤◌, true, cond, List, [], ◌∷◌, ◌++◌, map, length, Some, IsSome, refl, sym, ◌∙◌, ap, subst, inl, inr, arith, length-append}
use Rattle.std.specs.List.{IsDistinct}
use Rattle.std.specs.Map.{lookup}
use Rattle.std.proofs.lemmas.Bool.{cases_Bool}
use Rattle.std.proofs.lemmas.List.{length-map}
use Rattle.std.proofs.lemmas.Map.Keys.{IsDistinct-push}
use Rattle.std.proofs.lemmas.Map.Steps.{length-le_from_keys}
use Rattle.intern_store.specs.declared.names.Name.{Name}
use Rattle.intern_store.specs.Named.{same_name}
use Rattle.intern_marks.specs.Names.{has}
use Rattle.intern_marks.specs.Reach.{Entry, entry_of, is_entry, starts_with, IsPath}
use Rattle.intern_marks.proofs.Names.{same_name_is_equivalence, has_cases}

-- an entry with its name
abbrev named : Entry → Name × Entry
named e = (e.name, e)

looked_up : (family : List Entry) (x : Name) → lookup (same_name x) (map named family) ≡ entry_of family x
looked_up [] x = refl
looked_up (e ∷ family) x = ap (λ o. cond (same_name x e.name) (Some e) o) (looked_up family x)

-- names of entries, none of them twice, are no more than the entries
few_names : (family : List Entry) (names : List Name) → IsDistinct same_name names
    → ((x : Name) → has names x ≡ true → is_entry family x ≡ true) → length names ≤ length family
few_names family names once each =
    let few = length-le_from_keys same_name_is_equivalence names (map named family) once
    (λ x among. subst IsSome (sym (looked_up family x)) (each x among)) in
    omega (arith, length-map family named)

-- so where they are as many, they are the names of all entries
pub all_named : (family : List Entry) (names : List Name) → IsDistinct same_name names
    → ((x : Name) → has names x ≡ true → is_entry family x ≡ true) → length family ≤ length names
    → (x : Name) → is_entry family x ≡ true → has names x ≡ true
all_named family names once each many x there =
    elim (cases_Bool (has names x)) [
      | inl among ↦ among
      | inr out ↦
          let few = few_names family (names ++ x ∷ []) (IsDistinct-push same_name_is_equivalence names x once out)
          (λ y more. elim (has_cases names x y more) [ inl old ↦ each y old | inr is ↦ ap (is_entry family) is ∙ there ]) in
          let more = length-append names (x ∷ []) in
          absurd (omega arith)
    ]

-- a path ends at an entry
pub reached_entry : (listed : List Name) (family : List Entry) (before : List Name) (x : Name)
    → IsPath (starts_with listed family) family before x → is_entry family x ≡ true
reached_entry listed family [] x path = grind (arith, path)
reached_entry listed family (parent ∷ before) x path = path.0
