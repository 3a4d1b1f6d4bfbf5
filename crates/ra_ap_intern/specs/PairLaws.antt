-- Laws of a pair of families, which its implementation of `Family` cites.
use Rattle.std.specs.Prelude.{◌≡◌, ℕ, Bool, true, ◌||◌, List, ◌++◌, nat_eq, Option, Some, None, is_some, refl}
use Rattle.std.specs.List.{filter}
use Rattle.std.specs.Option.{option_or}
use Rattle.std.proofs.Common.{sym, ◌∙◌, ap, inl, inr}
use Rattle.std.proofs.lemmas.Bool.{or_left, or_right, or_cases}
use Rattle.std.proofs.lemmas.List.Elements.{filter-append}
use Rattle.std.proofs.lemmas.List.Folds.{find-append, list_any-append}
use Rattle.intern_store.specs.Named.{same_name}
use Rattle.intern_store.specs.declared.names.Name.{Name}
use Rattle.intern_marks.specs.Reach.{Entry, entry_of, is_entry}
use Rattle.ra_ap_intern.specs.Families.{has_number}

-- the entry of a name is in the first list, or else in the second
pub entry_either : (xs ys : List Entry) (x : Name)
    → entry_of (xs ++ ys) x ≡ option_or (entry_of xs x) (entry_of ys x)
entry_either xs ys x = find-append (λ e. same_name x e.name) xs ys

some_either : {T : Type 0} (o p : Option T) → is_some (option_or o p) ≡ (is_some o || is_some p)
some_either None p = refl
some_either (Some x) p = refl

pub is_either : (xs ys : List Entry) (x : Name)
    → is_entry (xs ++ ys) x ≡ (is_entry xs x || is_entry ys x)
is_either xs ys x =
    ap is_some (entry_either xs ys x) ∙ some_either (entry_of xs x) (entry_of ys x)

pub has_either : (ns ms : List ℕ) (n : ℕ)
    → has_number (ns ++ ms) n ≡ (has_number ns n || has_number ms n)
has_either ns ms n = list_any-append (nat_eq n) ns ms

-- each part is cut on its own
pub filter_both : {X : Type 0} (p : X → Bool) (xs ys : List X) {us vs : List X}
    → us ≡ filter p xs → vs ≡ filter p ys → us ++ vs ≡ filter p (xs ++ ys)
filter_both p xs ys e f = (λ i. e i ++ f i) ∙ sym (filter-append p xs ys)

-- what leaves each part as it was does so for both
pub both_whole : {F G : Type 0} (entries : F → List Entry) (others : G → List Entry)
    (kept : F → (Name → Bool) → F) (left : G → (Name → Bool) → G)
    → ((f : F) (set : Name → Bool)
    → ((x : Name) → is_entry (entries f) x ≡ true → set x ≡ true) → kept f set ≡ f)
    → ((g : G) (set : Name → Bool)
    → ((x : Name) → is_entry (others g) x ≡ true → set x ≡ true) → left g set ≡ g)
    → (f : F) (g : G) (set : Name → Bool)
    → ((x : Name) → is_entry (entries f ++ others g) x ≡ true → set x ≡ true)
    → (kept f set ≡ f) × (left g set ≡ g)
both_whole entries others kept left first second f g set all = (
  first f set (λ x is. all x (is_either (entries f) (others g) x
      ∙ or_left (is_entry (entries f) x) (is_entry (others g) x) is)),
  second g set (λ x is. all x (is_either (entries f) (others g) x
      ∙ or_right (is_entry (entries f) x) (is_entry (others g) x) is)),
)

pub both_numbered : (xs ys : List Entry) (ns ms : List ℕ)
    → ((x : Name) → is_entry xs x ≡ true → has_number ns x.storage ≡ true)
    → ((x : Name) → is_entry ys x ≡ true → has_number ms x.storage ≡ true)
    → (x : Name) → is_entry (xs ++ ys) x ≡ true → has_number (ns ++ ms) x.storage ≡ true
both_numbered xs ys ns ms first second x is =
    has_either ns ms x.storage
    ∙ elim (or_cases (is_entry xs x) (is_entry ys x) (sym (is_either xs ys x) ∙ is)) [
      | inl there ↦ or_left (has_number ns x.storage) (has_number ms x.storage) (first x there)
      | inr there ↦ or_right (has_number ns x.storage) (has_number ms x.storage) (second x there)
    ]
