-- The changes that are told bring no more terms than any others.
use Rattle.std.proofs.Common.{◌≡◌, ℕ, suc, ◌+◌, ◌≤◌, List, [], ◌∷◌, ◌++◌, inl, inr, refl, ap, subst, arith}
use Rattle.intern_terms.specs.Tree.{Tree, Trees, tree, no_more, one_more, count, UnfoldsTo}
use Rattle.ra_ap_intern.specs.Name.{Name}
use Rattle.syntax.specs.Changes.{Swap, Changed, AllChanged, size, sizes, Bring, IsMadeWith, AreMadeWith}
use Rattle.syntax.specs.Parsing.{Store}

same_count : (ts us : Trees) (n : ℕ) → AreMadeWith ts us n → count ts ≡ count us
same_count no_more no_more n made = refl
same_count no_more (one_more u us) n made = absurd made
same_count (one_more t ts) no_more n made = absurd made
same_count (one_more t ts) (one_more u us) n made = ap suc (same_count ts us made.1 made.4)

-- where a name has one tree
module _ (s : Store) (one_tree : (n : Name) (t u : Tree) → UnfoldsTo s n t → UnfoldsTo s n u → t ≡ u) where
  bring_none : (cs : List Swap) (m : ℕ) → cs ≡ [] → Bring s cs m → m ≡ 0
  bring_none cs m none b = subst (λ l. Bring s l m) none b

  bring_parts : (xs ys : List Swap) (m : ℕ) → Bring s (xs ++ ys) m
      → (first : ℕ) × (rest : ℕ) × (m ≡ first + rest) × Bring s xs first × Bring s ys rest
  bring_parts [] ys m b = (0, m, omega arith, refl, b)
  bring_parts (c ∷ xs) ys m b =
      let more = bring_parts xs ys b.2 b.4 in (
        size b.0 + more.0,
        more.1,
        omega (arith, b.3, more.2),
        (b.0, b.1, more.0, refl, more.3),
        more.4,
      )

  -- changes bring no more than the whole tree
  mutual
    at_most : (t u : Tree) (cs : List Swap) (m : ℕ) → Changed s t u cs → Bring s cs m → m ≤ size u
    at_most (tree h ts) (tree i us) cs m (inl same) b =
        let none = bring_none cs m same.1 b in omega (arith, none)
    at_most (tree h ts) (tree i us) cs m (inr (inl whole)) b =
        let c = whole.1.0 in
        let one : Bring s (c ∷ []) m = subst (λ l. Bring s l m) whole.1.1 b in
        let is = ap size (one_tree c.new one.0 (tree i us) one.1 whole.1.3) in
        omega (arith, one.3, one.4, is)
    at_most (tree h ts) (tree i us) cs m (inr (inr parts)) b =
        let le = parts_at_most ts us cs m parts.1 b in omega (arith, le)

    parts_at_most : (ts us : Trees) (cs : List Swap) (m : ℕ) → AllChanged s ts us cs → Bring s cs m
        → m ≤ sizes us
    parts_at_most no_more no_more cs m all b = let none = bring_none cs m all b in omega (arith, none)
    parts_at_most no_more (one_more u us) cs m all b = absurd all
    parts_at_most (one_more t ts) no_more cs m all b = absurd all
    parts_at_most (one_more t ts) (one_more u us) cs m all b =
        let parts = bring_parts all.0 all.1 m (subst (λ l. Bring s l m) all.2 b) in
        let first = at_most t u all.0 parts.0 all.3 parts.3 in
        let rest = parts_at_most ts us all.1 parts.1 all.4 parts.4 in
        omega (arith, parts.2, first, rest)

  mutual
    pub least : (t u : Tree) (cs : List Swap) (m n : ℕ) → Changed s t u cs → Bring s cs m
        → IsMadeWith t u n → m ≤ n
    least (tree h ts) (tree i us) cs m n changed b (inl whole) =
        let le = at_most (tree h ts) (tree i us) cs m changed b in omega (arith, le, whole)
    least (tree h ts) (tree i us) cs m n (inl same) b (inr made) =
        let none = bring_none cs m same.1 b in omega (arith, none)
    least (tree h ts) (tree i us) cs m n (inr (inl whole)) b (inr made) =
        absurd (whole.0 (made.0, same_count ts us n made.1))
    least (tree h ts) (tree i us) cs m n (inr (inr parts)) b (inr made) =
        parts_least ts us cs m n parts.1 b made.1

    parts_least : (ts us : Trees) (cs : List Swap) (m n : ℕ) → AllChanged s ts us cs → Bring s cs m
        → AreMadeWith ts us n → m ≤ n
    parts_least no_more no_more cs m n all b made = let none = bring_none cs m all b in omega (arith, none)
    parts_least no_more (one_more u us) cs m n all b made = absurd all
    parts_least (one_more t ts) no_more cs m n all b made = absurd all
    parts_least (one_more t ts) (one_more u us) cs m n all b made =
        let parts = bring_parts all.0 all.1 m (subst (λ l. Bring s l m) all.2 b) in
        let first = least t u all.0 parts.0 made.0 all.3 parts.3 made.3 in
        let rest = parts_least ts us all.1 parts.1 made.1 all.4 parts.4 made.4 in
        omega (arith, parts.2, made.2, first, rest)
