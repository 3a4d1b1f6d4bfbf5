-- What the check computes of the table of the constants.
use Rattle.std.proofs.Common.{◌≡◌, ℕ, ◌<◌, Bool, true, false, ◌&&◌, ◌==◌, not, List, [], ◌∷◌, length, map, Some, slice_get, refl, ap, ◌∙◌, subst, zero-add}
use Rattle.std.specs.List.{list_all, range_with_len}
use Rattle.std.specs.Option.{is_none}
use Rattle.std.specs.Ordering.{nat_cmp}
use Rattle.std.specs.Cmp.Lexicographic.{slice_cmp}
use Rattle.std.proofs.lemmas.Cmp.{nat_list_cmp_total}
use Rattle.std.proofs.lemmas.List.FromFn.{get_or-map-range_with_len}
use Rattle.std.proofs.lemmas.List.Elements.{All-get_or}
use Rattle.std.proofs.lemmas.List.Sums.{AllPass-from_list_all}
use Rattle.std.proofs.lemmas.Option.{slice_get_within, slice_get-get_or, get_or_from_slice_get}
use Rattle.intern_presets.specs.Numbers.{number_value}
use Rattle.intern_presets.specs.Table.{table, table_length}
use Rattle.intern_presets.specs.Presets.{Rises}
use Rattle.intern_presets.proofs.Rising.{each_below_next, sorted_from_test}

each_text_below_next : each_below_next (slice_cmp nat_cmp) table ≡ true
unfolding table
each_text_below_next = refl

pub table_rises : Rises table
table_rises = sorted_from_test (slice_cmp nat_cmp) nat_list_cmp_total table each_text_below_next

pub length_of_table : length table ≡ table_length
unfolding table
length_of_table = refl

-- where each of a list passes a test, so does the one at an index
pub passes_at : {X : Type 0} (test : X → Bool) (xs : List X) → list_all test xs ≡ true → (i : ℕ) (x : X) → slice_get xs i ≡ Some x → test x ≡ true
passes_at test xs all i x e =
    subst (λ y. test y ≡ true) (get_or_from_slice_get xs i x x e) (All-get_or (λ y. test y ≡ true) xs i x (slice_get_within xs i x e) (AllPass-from_list_all test xs all))

-- what a table has at a number, where it has the texts of the numbers from 0
pub at_number : (f : ℕ → List ℕ) (n : ℕ) → n < 256 → slice_get (map f (range_with_len 0 256)) n ≡ Some (f n)
at_number f n lt =
    slice_get-get_or (map f (range_with_len 0 256)) n [] lt ∙ ap Some (get_or-map-range_with_len f 0 256 n n [] lt (zero-add n))

-- the text begins with '<', as a generated name does
abbrev pub starts_generated : List ℕ → Bool
starts_generated [] = false
starts_generated (c ∷ cs) = c == 60

-- no text of the table is a number, and none begins as a generated name does
unfoldable pub constant_test : List ℕ → Bool
constant_test t = is_none (number_value t) && not (starts_generated t)

pub all_pass : list_all constant_test table ≡ true
unfolding table number_value constant_test
all_pass = refl
