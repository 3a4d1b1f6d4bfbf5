-- Equal slices: equal headers, and items that are equal one by one.
use Rattle.std.proofs.Common.{◌≡◌, ◌↔◌, ℕ, Bool, true, ◌&&◌, List, [], ◌∷◌, length, map, map-id, Option, Some, None, refl, sym, ap, ◌∙◌, arith}
use Rattle.std.proofs.lemmas.Bool.{and_parts, and_from}
use Rattle.std.specs.Cmp.{IsEquivalence}
use Rattle.std.specs.Option.{option_map}
use Rattle.std.specs.Cmp.Lexicographic.{pointwise, as_long, lists_equiv}
use Rattle.ra_ap_intern.specs.Sliced.{Sliced, sliced_eq}
use Rattle.ra_ap_intern.specs.Slices.{sized}

-- lists are equal one by one exactly if they are seen as the same, where their items are
pub pointwise_views : {A X : Type 0} (eq : A → A → Bool) (view : A → X)
    → ((v w : A) → (eq v w ≡ true) ↔ (view v ≡ view w)) → (xs ys : List A)
    → (pointwise eq xs ys ≡ true) ↔ (map view xs ≡ map view ys)
pointwise_views eq view alike [] [] = (λ is. refl, λ same. refl)
pointwise_views eq view alike [] (y ∷ ys) = (λ is. absurd (cc), λ same. absurd (cc))
pointwise_views eq view alike (x ∷ xs) [] = (λ is. absurd (cc), λ same. absurd (cc))
pointwise_views eq view alike (x ∷ xs) (y ∷ ys) =
    let rest = pointwise_views eq view alike xs ys in
    (λ is. grind (arith, alike x y, rest), λ same. grind (arith, alike x y, rest))

module _ {H I : Type 0} (h : H → H → Bool) (i : I → I → Bool) where
  -- it is an equivalence where the equalities of headers and of items are
  pub sliced_equivalence : IsEquivalence h → IsEquivalence i → IsEquivalence (sliced_eq h i)
  sliced_equivalence hs is =
      let ls = lists_equiv is in
      record {
        refl = λ v. and_from _ _ (hs.refl v.header) (ls.refl v.items);
        symm = λ v w. λ k. hs.symm v.header w.header k && ls.symm v.items w.items k;
        congr = λ v w x e.
            let both = and_parts _ _ e in
            λ k. hs.congr v.header w.header x.header both.0 k
            && ls.congr v.items w.items x.items both.1 k;
      }

  -- what it says of two slices
  pub sliced_parts : (v w : Sliced H I) → sliced_eq h i v w ≡ true
      → (h v.header w.header ≡ true) × (pointwise i v.items w.items ≡ true)
  sliced_parts v w e = and_parts _ _ e

  -- equal slices have as many items
  pub sliced_lengths : (v w : Sliced H I) → sliced_eq h i v w ≡ true
      → length v.items ≡ length w.items
  sliced_lengths v w e = as_long i v.items w.items (sliced_parts v w e).1

  -- slices are equal exactly if their headers and their items are seen as the same
  pub sliced_views : {X Y : Type 0} (header : H → X) (item : I → Y)
      → ((a b : H) → (h a b ≡ true) ↔ (header a ≡ header b))
      → ((a b : I) → (i a b ≡ true) ↔ (item a ≡ item b)) → (v w : Sliced H I)
      → (sliced_eq h i v w ≡ true)
      ↔ ((header v.header ≡ header w.header) × (map item v.items ≡ map item w.items))
  sliced_views header item headers items v w =
      let first = headers v.header w.header in
      let rest = pointwise_views i item items v.items w.items in (
        λ e. let both = sliced_parts v w e in (first.0 both.0, rest.0 both.1),
        λ same. and_from _ _ (first.1 same.0) (rest.1 same.1),
      )

  -- and exactly if they are the same, where it is so of their headers and of their items
  pub sliced_same : ((a b : H) → (h a b ≡ true) ↔ (a ≡ b))
      → ((a b : I) → (i a b ≡ true) ↔ (a ≡ b)) → (v w : Sliced H I)
      → (sliced_eq h i v w ≡ true) ↔ (v ≡ w)
  sliced_same headers items v w =
      let parts = sliced_views (λ x. x) (λ x. x) headers items v w in (
        λ e.
            let both = parts.0 e in
            let rest : v.items ≡ w.items = sym (map-id v.items) ∙ both.1 ∙ map-id w.items in
            λ k. record { header = both.0 k; items = rest k },
        λ same. parts.1 (ap (λ s. s.header) same, ap (λ s. map (λ x. x) s.items) same),
      )

-- what a read shows of a slice, beside how many items it has, is what is kept
pub slice_shown : {H I : Type 0} (shown : Option (Sliced H I × ℕ)) (kept : Option (Sliced H I))
    → shown ≡ option_map sized kept → option_map (λ s. s.0) shown ≡ kept
slice_shown shown (Some v) is = ap (option_map (λ s. s.0)) is
slice_shown shown None is = ap (option_map (λ s. s.0)) is
