-- What queries over sheets read and give.
use Rattle.std.proofs.Common.{◌≡◌, ◌↔◌, ◌==◌, ◌&&◌, ◌+◌, Bool, true, false, cond, arith, Contains, Decides, IsPermutation, IsSome, is_some, List, Option, refl, sym, ap, subst, ◌∙◌}
use Rattle.std.proofs.lemmas.Bool.{and_parts, and_from}
use Rattle.std.proofs.lemmas.Bool.Decides.{Decides-eqb}
use Rattle.std.proofs.lemmas.List.Sorted.{Contains-permutation, IsPermutation-sym}
use Rattle.std.proofs.lemmas.Map.Made.{is_member-Decides}
use Rattle.std.proofs.lemmas.Map.Keys.{apart_from_distinct, sorted_from_all_adjacent}
use Rattle.std.specs.Cmp.{IsTotalOrder, then_total, on_total, nat_cmp_total, nat_eq_equiv}
use Rattle.std.specs.List.{IsDistinct}
use Rattle.std.specs.List.Sorted.{IsSorted, IsStrictlySortedBy}
use Rattle.std.specs.Map.{lookup}
use Rattle.std.specs.Ordering.{is_lt, nat_cmp, ordering_reverse, ordering_then}
use Rattle.std.specs.Prelude.{slice_index_or}
use Rattle.std.specs.Set.{is_member}
use Rattle.std.specs.declared.cmp.Ordering.{Ordering}
use Rattle.std.specs.declared.cmp.Ordering.TheVariants.{Less, Equal, Greater}
use Rattle.queries.specs.declared.key.Key.{Key}
use Rattle.queries.specs.declared.key.Key.TheVariants.{Cell}
use Rattle.queries.specs.declared.place.Place.{Place}
use Rattle.queries.specs.declared.value.Value.{Value}
use Rattle.queries.specs.Formula.{Postfix}
use Rattle.queries.specs.Sheet.{Formulas, formula_at, same_place, place_order, reads_of, formula_reads, gives, cell_value}

-- a look-up by the equality of places
pub found_at : (eq : Place → Place → Bool) → ((p q : Place) → eq p q ≡ same_place p q)
    → (entries sheet : Formulas) → entries ≡ sheet → (place : Place) (found : Option Postfix)
    → found ≡ lookup (eq place) entries → formula_at sheet place ≡ found
found_at eq same entries sheet is place found at =
    sym (at ∙ (λ i. lookup (λ q. same place q i) (is i)))

-- a formula is put under a place, or taken away
pub put_at : (eq : Place → Place → Bool) → ((p q : Place) → eq p q ≡ same_place p q)
    → (before after sheet : Formulas) → before ≡ sheet → (place : Place) (found : Option Postfix)
    → ((q : Place) → lookup (eq q) after ≡ cond (eq place q) found (lookup (eq q) before))
    → (p : Place) → formula_at after p ≡ cond (same_place place p) found (formula_at sheet p)
put_at eq same before after sheet is place found put p =
    (λ i. lookup (λ q. sym (same p q) i) after) ∙ put p
    ∙ (λ i. cond (same place p i) found (lookup (λ q. same p q i) (is i)))

-- places are the same where their columns and rows are
same_places : (p q : Place) → Decides (same_place p q) (p ≡ q)
same_places p q = (
  λ e.
      let h : ((p.column == q.column) ≡ true) × ((p.row == q.row) ≡ true) = and_parts _ _ e in
      let column : p.column ≡ q.column = (Decides-eqb p.column q.column).0 h.0 in
      let row : p.row ≡ q.row = (Decides-eqb p.row q.row).0 h.1 in
      λ i. record { column = column i; row = row i },
  λ e. and_from _ _ ((Decides-eqb p.column q.column).1 (ap (λ (r : Place). r.column) e))
      ((Decides-eqb p.row q.row).1 (ap (λ (r : Place). r.row) e)),
)

-- the keys of a sheet, in any order, are the cells with formulas
pub keys_are_cells : (eq : Place → Place → Bool) → ((p q : Place) → eq p q ≡ same_place p q)
    → (entries sheet : Formulas) → entries ≡ sheet → (keys places : List Place)
    → ((q : Place) → is_some (lookup (eq q) entries) ≡ is_member eq keys q) → IsPermutation keys places
    → (p : Place) → Contains places p ↔ IsSome (formula_at sheet p)
keys_are_cells eq same entries sheet is keys places has moved p =
    let decides : (a b : Place) → Decides (eq a b) (a ≡ b) =
    λ a b. subst (λ t. Decides t (a ≡ b)) (sym (same a b)) (same_places a b) in
    let member : Decides (is_member eq keys p) (Contains keys p) = is_member-Decides decides keys p in
    let found : formula_at sheet p ≡ lookup (eq p) entries = found_at eq same entries sheet is p _ refl in (
      λ c. ap is_some found ∙ has p
          ∙ member.1 (Contains-permutation places keys p (IsPermutation-sym keys places moved) c),
      λ some. Contains-permutation keys places p moved (member.0 (sym (has p) ∙ sym (ap is_some found) ∙ some)),
    )

-- ---- the order of places

orders_total : IsTotalOrder place_order
orders_total =
    then_total (on_total (λ (p : Place). p.column) nat_cmp_total)
    (on_total (λ (p : Place). p.row) nat_cmp_total)

cmp_equal : (lt same : Bool) → cond lt Less (cond same Equal Greater) ≡ Equal → same ≡ true
cmp_equal true same is = absurd (cc)
cmp_equal false true is = refl
cmp_equal false false is = absurd (cc)

then_equal : (a b : Ordering) → ordering_then a b ≡ Equal → (a ≡ Equal) × (b ≡ Equal)
then_equal Less b is = absurd (cc)
then_equal Equal b is = (refl, is)
then_equal Greater b is = absurd (cc)

-- places at one place of the order are the same
equal_places : (p q : Place) → place_order p q ≡ Equal → same_place p q ≡ true
equal_places p q is =
    let both = then_equal (nat_cmp p.column q.column) (nat_cmp p.row q.row) is in
    and_from _ _ (cmp_equal _ _ both.0) (cmp_equal _ _ both.1)

not_greater : (there back : Ordering) → there ≡ ordering_reverse back → is_lt back ≡ false
    → (there ≡ Equal → ⊥) → there ≡ Less
not_greater Less back is less other = refl
not_greater Equal back is less other = absurd (other refl)
not_greater Greater Less is less other = absurd (cc)
not_greater Greater Equal is less other = absurd (cc)
not_greater Greater Greater is less other = absurd (cc)

pub same_places_flip : (eq : Place → Place → Bool) → ((p q : Place) → eq p q ≡ same_place p q)
    → (p q : Place) → eq p q ≡ eq q p
same_places_flip eq same p q = same p q
    ∙ (λ i. nat_eq_equiv.symm p.column q.column i && nat_eq_equiv.symm p.row q.row i)
    ∙ sym (same q p)

-- places in order that are distinct rise
pub places_rise : (eq : Place → Place → Bool) → ((p q : Place) → eq p q ≡ same_place p q)
    → (places : List Place) → IsSorted place_order places → IsDistinct eq places
    → IsStrictlySortedBy place_order places
places_rise eq same places sorted distinct =
    let none : Place = record { column = 0; row = 0 } in
    sorted_from_all_adjacent orders_total places none
    (λ k lt.
    let p = slice_index_or places k none in
    let q = slice_index_or places (k + 1) none in
    not_greater (place_order p q) (place_order q p) (orders_total.antisymm p q)
    (sorted k none (omega arith) lt)
    (λ equal.
    let apart = apart_from_distinct eq places k (k + 1) none distinct (omega arith) lt in
    let alike = same p q ∙ equal_places p q equal in
    absurd (cc)))

module _ (sheet : Formulas) (place : Place) (key : Key) (cell : key ≡ Cell place) where
  pub cell_reads : (found : Option Postfix) → formula_at sheet place ≡ found
      → formula_reads found ≡ reads_of sheet key
  cell_reads found is = ap formula_reads (sym is) ∙ ap (reads_of sheet) (sym cell)

  pub cell_gives : (found : Option Postfix) → formula_at sheet place ≡ found → (values : List Value)
      → cell_value found values ≡ gives sheet key values
  cell_gives found is values =
      ap (λ f. cell_value f values) (sym is) ∙ ap (λ k. gives sheet k values) (sym cell)
