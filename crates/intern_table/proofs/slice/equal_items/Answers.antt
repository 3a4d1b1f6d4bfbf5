use Rattle.std.proofs.Common.{◌≡◌, ℕ, ◌+◌, ◌<◌, ◌≤◌, Bool, true, false, List, length, drop, slice_index_or, refl, sym, ap, ◌∙◌, arith}
use Rattle.std.specs.Prelude.{◌&&◌}
use Rattle.std.specs.Cmp.Lexicographic.{pointwise}
use Rattle.std.proofs.lemmas.Bool.{not-true, not-false}
use Rattle.std.proofs.lemmas.List.{drop_more, drop_all}
use Rattle.intern_table.proofs.slice.equal_items.Goals as goal

module _ {S : Type 0} (eq : S → S → Bool) (xs ys : List S) (i : ℕ) where
  -- one item on
  next : (x y : S) → i < length xs → length xs ≡ length ys → x ≡ slice_index_or xs i x → y ≡ slice_index_or ys i y → (b : Bool) → eq x y ≡ b
      → pointwise eq (drop i xs) (drop i ys) ≡ (b && pointwise eq (drop (i + 1) xs) (drop (i + 1) ys))
  next x y below long is its b said =
      rw (drop_more xs i x below, drop_more ys i y (omega (arith, below, long)), sym is, sym its)
      (ap (λ b. b && pointwise eq (drop (i + 1) xs) (drop (i + 1) ys)) said)

  -- behind the last
  past : length xs ≤ i → length xs ≡ length ys → pointwise eq (drop i xs) (drop i ys) ≡ true
  past end long = rw (drop_all i xs end, drop_all i ys (omega (arith, end, long))) refl

pub returns-then-ne : goal.returns-then-ne
returns-then-ne g c =
    let differs = not-true _ (sym c.ne.ensures ∙ c.if-ne.true) in
    sym (sym c.loop-at.invariant ∙ next g.S.PartialEq.eq _ _ c.loop-at.at _ _ c.loop-at-test.true c.if-first-second.false c.index-first-at.is c.index-second-at.is false differs)

pub loop-at-preserved : goal.loop-at-preserved
loop-at-preserved g c =
    let same = not-false _ (sym c.ne.ensures ∙ c.if-ne.false) in
    sym (next g.S.PartialEq.eq _ _ c.loop-at.at _ _ c.loop-at-test.true c.if-first-second.false c.index-first-at.is c.index-second-at.is true same) ∙ c.loop-at.invariant

pub returns : goal.returns
returns g c = sym (past g.S.PartialEq.eq _ _ c.loop-at.at (omega (arith, c.loop-at-test.false)) c.if-first-second.false) ∙ c.loop-at.invariant
