-- A header with its list of items, as a table keeps it.
use Rattle.std.specs.Prelude.{◌≡◌, ℕ, Bool, true, ◌&&◌, List, ◌++◌, refl}
use Rattle.std.specs.Cmp.{IsEquivalence}
use Rattle.std.specs.Cmp.Lexicographic.{pointwise, lists_equiv}
use Rattle.std.specs.Coded.{Coded, code_by, coded×, coded_list}
use Rattle.std.specs.List.{flat_map}
use Rattle.std.proofs.Common.{ap, sym, ◌∙◌}
use Rattle.std.proofs.lemmas.Bool.{and_parts}

-- a header with its items
pub record Sliced (H S : Type 0) : Type 0 where
  pub header : H
  pub items : List S

abbrev pub sliced_code : {H S : Type 0} → Coded H → Coded S → Coded (Sliced H S)
sliced_code {H} {S} h s =
    code_by (H × List S) (coded× h (coded_list s))
    (λ v. (v.header, v.items)) (λ p. record { header = p.0; items = p.1 }) (λ _. refl)

-- a header that passes a test, and items that equal these one by one
abbrev pub sliced_fits : {H S : Type 0} → (H → Bool) → (S → S → Bool) → List S
    → Sliced H S → Bool
sliced_fits test s xs w = test w.header && pointwise s xs w.items

-- equal headers, and one by one equal items
abbrev pub sliced_eq : {H S : Type 0} → (H → H → Bool) → (S → S → Bool)
    → Sliced H S → Sliced H S → Bool
sliced_eq h s v w = sliced_fits (h v.header) s v.items w

-- what a hasher is fed: the header and then the items, without their length
abbrev pub sliced_input : {H S : Type 0} → (H → List (List ℕ)) → (S → List (List ℕ))
    → Sliced H S → List (List ℕ)
sliced_input h s v = h v.header ++ flat_map s v.items

-- slices that fit one query are equal
pub fits_alike : {H S : Type 0} (test : H → Bool) (eq : H → H → Bool) {item_eq : S → S → Bool}
    → IsEquivalence item_eq → ((x y : H) → test x ≡ true → test y ≡ eq x y)
    → (xs : List S) (v w : Sliced H S) → sliced_fits test item_eq xs v ≡ true
    → sliced_fits test item_eq xs w ≡ true → sliced_eq eq item_eq v w ≡ true
fits_alike test eq {item_eq} laws headers xs v w first second =
    let one = and_parts (test v.header) (pointwise item_eq xs v.items) first in
    let other = and_parts (test w.header) (pointwise item_eq xs w.items) second in
    ap (λ b. b && pointwise item_eq v.items w.items)
    (sym (headers v.header w.header one.0) ∙ other.0)
    ∙ sym ((lists_equiv laws).congr xs v.items w.items one.1) ∙ other.1
