-- Two families as one.
use Rattle.std.proofs.Common.{◌≡◌, ℕ, Bool, true, false, not, ◌&&◌, List, [], ◌∷◌, ◌++◌, None, refl, sym, ◌∙◌, arith}
use Rattle.std.proofs.lemmas.Bool.Decides.{nat_tests}
use Rattle.intern_store.specs.declared.names.Name.{Name}
use Rattle.intern_marks.specs.Reach.{Entry, entry_of, is_entry, children_in}
use Rattle.ra_ap_intern.specs.Families.{has_number, meet, are_distinct}
use Rattle.ra_ap_intern.specs.PairLaws.{entry_either, has_either}

-- numbers are distinct where those of each part are, and the parts have none in common
distinct_both : (ns ms : List ℕ) → are_distinct (ns ++ ms) ≡ ((are_distinct ns && are_distinct ms) && not (meet ns ms))
distinct_both [] ms = grind arith
distinct_both (n ∷ ns) ms = grind (arith, has_either ns ms n, distinct_both ns ms)

pub record IsApart (ns ms : List ℕ) : Type 0 where
  pub first : are_distinct ns ≡ true
  pub second : are_distinct ms ≡ true
  pub none : meet ns ms ≡ false

pub are_apart : (ns ms : List ℕ) → are_distinct (ns ++ ms) ≡ true → IsApart ns ms
are_apart ns ms h =
    let both = distinct_both ns ms in
    record { first = grind (arith, both); second = grind (arith, both); none = grind (arith, both) }

-- a number of the second part is none of the first
not_first : (ns ms : List ℕ) (n : ℕ) → meet ns ms ≡ false → has_number ms n ≡ true → has_number ns n ≡ false
not_first [] ms n none there = refl
not_first (m ∷ ns) ms n none there = grind (arith, nat_tests, not_first ns ms n)

-- where the first part has the entry, it is that of both
pub in_first : (xs ys : List Entry) (x : Name) → is_entry xs x ≡ true → entry_of (xs ++ ys) x ≡ entry_of xs x
in_first xs ys x there = grind (arith, entry_either xs ys x)

-- where it hasn't, the entry of both is that of the second
pub in_second : (xs ys : List Entry) (x : Name) → is_entry xs x ≡ false → entry_of (xs ++ ys) x ≡ entry_of ys x
in_second xs ys x none = grind (arith, entry_either xs ys x)

-- what has no entry declares nothing
pub no_children : (xs : List Entry) (x : Name) → is_entry xs x ≡ false → children_in xs x ≡ []
no_children xs x none = grind arith

pub all_distinct : (ns ms : List ℕ) (a b m : Bool) → a ≡ are_distinct ns → b ≡ are_distinct ms → m ≡ meet ns ms
    → ((a && b) && not m) ≡ are_distinct (ns ++ ms)
all_distinct ns ms a b m ea eb em = (λ i. (ea i && eb i) && not (em i)) ∙ sym (distinct_both ns ms)

-- no name of a storage of the second part has an entry in the first
pub none_in_first : (xs : List Entry) (ns ms : List ℕ) → ((x : Name) → is_entry xs x ≡ true → has_number ns x.storage ≡ true)
    → are_distinct (ns ++ ms) ≡ true → (x : Name) → has_number ms x.storage ≡ true → entry_of xs x ≡ None
none_in_first xs ns ms numbered apart x there =
    let other = not_first ns ms x.storage (are_apart ns ms apart).none there in
    grind (arith, numbered x, other)
