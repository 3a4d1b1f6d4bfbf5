-- Slots after a write.
use Rattle.std.proofs.Common.{◌≡◌, ℕ, zero, suc, ◌+◌, ◌<◌, true, List, [], ◌∷◌, ◌++◌, length, take, map, Option, Some, None, refl, ap, ◌∙◌, get_or, add-one}
use Rattle.std.specs.List.{filter_map, cons_option}
use Rattle.std.proofs.Math.Seq.{take-suc}
use Rattle.std.proofs.lemmas.List.Elements.{filter_map-append}
use Rattle.std.proofs.Math.ListN.{set}
use Rattle.std.proofs.lemmas.List.{map-set, append-nil}
use Rattle.intern_calls.specs.Held.{Held, seen, held_at, owner, is_owner}
use Rattle.intern_calls.specs.Held.Held.{nothing, owned, reference, symbol}
use Rattle.intern_calls.specs.declared.slot.Slot.{Slot}

pub map_set : {C G S : Type 0} (l : List (Slot C G S)) (n : ℕ) (x : Slot C G S)
    → map seen (set l n x) ≡ set (map seen l) n (seen x)
map_set l n x = map-set seen l n x

-- what is put back where it was
pub restored : (l : List Held) (n : ℕ) (h : Held) → h ≡ owner (held_at l n)
    → is_owner h ≡ true → set (set l n nothing) n h ≡ l
restored [] n h is some = refl
restored (owned k m ∷ l) zero h is some = ap (λ x. x ∷ l) is
restored (symbol s ∷ l) zero h is some = ap (λ x. x ∷ l) is
restored (reference k m ∷ l) zero h is some = cc
restored (nothing ∷ l) zero h is some = cc
restored (x ∷ l) (suc n) h is some = ap (λ t. x ∷ t) (restored l n h is some)

-- what a test keeps of one more number
more : {Y : Type 0} (h : ℕ → Option Y) (xs : List ℕ) (i : ℕ) → i < length xs
    → filter_map h (take (i + 1) xs) ≡ filter_map h (take i xs) ++ filter_map h (get_or xs i 0 ∷ [])
more h xs i lt =
    ap (λ n. filter_map h (take n xs)) (add-one i) ∙ ap (filter_map h) (take-suc xs i 0 lt)
    ∙ filter_map-append h (take i xs) (get_or xs i 0 ∷ [])

pub more_some : {Y : Type 0} (h : ℕ → Option Y) (xs : List ℕ) (i : ℕ) (y : Y) → i < length xs
    → h (get_or xs i 0) ≡ Some y
    → filter_map h (take (i + 1) xs) ≡ filter_map h (take i xs) ++ y ∷ []
more_some h xs i y lt is =
    more h xs i lt ∙ ap (λ o. filter_map h (take i xs) ++ cons_option o []) is

pub more_none : {Y : Type 0} (h : ℕ → Option Y) (xs : List ℕ) (i : ℕ) → i < length xs
    → h (get_or xs i 0) ≡ None → filter_map h (take (i + 1) xs) ≡ filter_map h (take i xs)
more_none h xs i lt is =
    more h xs i lt ∙ ap (λ o. filter_map h (take i xs) ++ cons_option o []) is
    ∙ append-nil (filter_map h (take i xs))
