-- The cells of blocks.
use Rattle.std.proofs.Common.{◌≡◌, ℕ, ◌+◌, ◌-◌, ◌≤◌, List, [], ◌∷◌, ◌++◌, sym, ap, ◌∙◌, arith}
use Rattle.std.specs.List.{flat_map, range_with_len}
use Rattle.std.proofs.lemmas.List.{append_assoc, map-id}
use Rattle.std.proofs.lemmas.List.FromFn.{map-range_with_len_more}
use Rattle.std.proofs.lemmas.Grind.{flat_map-append}
use Rattle.std.proofs.lemmas.List.{append-nil}
use Rattle.queries.specs.declared.key.Key.{Key}
use Rattle.queries.specs.declared.key.Key.TheVariants.{Cell}
use Rattle.queries.specs.Sheet.{column_cells}

-- one more row of a column
pub column_more : (old cells : List Key) (top row column : ℕ) → top ≤ row
    → cells ≡ old ++ column_cells top (row - top) column
    → cells ++ Cell (record { column = column; row = row }) ∷ [] ≡ old ++ column_cells top (row + 1 - top) column
column_more old cells top row column le is =
    let cell : ℕ → Key = λ r. Cell (record { column = column; row = r }) in
    let count : row - top + 1 ≡ row + 1 - top = omega arith in
    ap (λ cs. cs ++ cell row ∷ []) is
    ∙ append_assoc old (column_cells top (row - top) column) (cell row ∷ [])
    ∙ ap (λ cs. old ++ cs) (sym (map-range_with_len_more cell top (row - top) row (omega arith)))
    ∙ ap (λ n. old ++ column_cells top n column) count

range_more : (a n j : ℕ) → a + n ≡ j → range_with_len a (n + 1) ≡ range_with_len a n ++ j ∷ []
range_more a n j is =
    sym (map-id _) ∙ map-range_with_len_more (λ x. x) a n j is
    ∙ ap (λ xs. xs ++ j ∷ []) (map-id (range_with_len a n))

-- one more column of a block
pub block_more : (cells : List Key) (pieces : ℕ → List Key) (left column : ℕ) → left ≤ column
    → cells ≡ flat_map pieces (range_with_len left (column - left))
    → cells ++ pieces column ≡ flat_map pieces (range_with_len left (column + 1 - left))
block_more cells pieces left column le is =
    let count : column - left + 1 ≡ column + 1 - left = omega arith in
    ap (λ cs. cs ++ pieces column) is
    ∙ ap (λ cs. flat_map pieces (range_with_len left (column - left)) ++ cs) (sym (append-nil (pieces column)))
    ∙ sym (flat_map-append pieces (range_with_len left (column - left)) (column ∷ []))
    ∙ ap (flat_map pieces) (sym (range_more left (column - left) column (omega arith)))
    ∙ ap (λ n. flat_map pieces (range_with_len left n)) count
