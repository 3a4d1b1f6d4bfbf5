-- What leads from a tree to another.
use Rattle.std.specs.Prelude.{◌≡◌, ◌⊎◌, ℕ, suc, ◌+◌, ◌≤◌, List, [], ◌∷◌, ◌++◌, map as list_map}
use Rattle.intern_terms.specs.Handle.{term_name}
use Rattle.intern_terms.specs.Tree.{Tree, Trees, tree, no_more, one_more, count, UnfoldsTo}
use Rattle.intern_terms.specs.declared.handle.TermRef.{TermRef}
use Rattle.ra_ap_intern.specs.Name.{Name}
use Rattle.syntax.specs.Parsing.{Store, Stand}
use Rattle.syntax.specs.declared.change.Change.{Change}

-- the terms of a change: the old, and the new
pub record Swap : Type 0 where
  pub old : Name
  pub new : Name

abbrev pub swap : Change → Swap
swap c = record { old = term_name c.old.tree; new = term_name c.new.tree }

-- the old terms of changes, and the new
abbrev pub olds_of : List Change → List TermRef
olds_of = list_map (λ c. c.old.tree)

abbrev pub news_of : List Change → List TermRef
news_of = list_map (λ c. c.new.tree)

-- trees with one head, and as many parts
abbrev pub Alike : Tree → Tree → Type 0
Alike (tree head ts) (tree other us) = (head ≡ other) × (count ts ≡ count us)

-- trees with one head, and with parts that these terms stand for
abbrev pub HaveParts : Store → Tree → Tree → List TermRef → List TermRef → Type 0
HaveParts s (tree head ts) (tree other us) olds news =
    (head ≡ other) × Stand s olds ts × Stand s news us

-- one change, of a whole tree
abbrev pub IsSwap : Store → Tree → Tree → List Swap → Type 0
IsSwap s t u changes = (c : Swap) × (changes ≡ c ∷ []) × UnfoldsTo s c.old t × UnfoldsTo s c.new u

abbrev mutual
  -- the second tree is the first with these changes, from left to right: none where they are equal;
  -- the whole tree where the heads differ, or the numbers of parts; and else those of the parts
  pub Changed : Store → Tree → Tree → List Swap → Type 0
  Changed s (tree head ts) (tree other us) changes =
      ((tree head ts ≡ tree other us) × (changes ≡ []))
      ⊎ ((¬ (Alike (tree head ts) (tree other us)))
      × IsSwap s (tree head ts) (tree other us) changes)
      ⊎ ((head ≡ other) × AllChanged s ts us changes)

  -- the parts of the second are those of the first with these changes
  pub AllChanged : Store → Trees → Trees → List Swap → Type 0
  AllChanged s no_more no_more changes = changes ≡ []
  AllChanged s no_more (one_more u us) changes = ⊥
  AllChanged s (one_more t ts) no_more changes = ⊥
  AllChanged s (one_more t ts) (one_more u us) changes =
      (first : List Swap) × (rest : List Swap) × (changes ≡ first ++ rest)
      × Changed s t u first × AllChanged s ts us rest

abbrev mutual
  -- how many terms a tree has in it
  pub size : Tree → ℕ
  size (tree head ts) = suc (sizes ts)

  pub sizes : Trees → ℕ
  sizes no_more = 0
  sizes (one_more t ts) = size t + sizes ts

-- the new parts of changes have so many terms in all
abbrev pub Bring : Store → List Swap → ℕ → Type 0
Bring s [] n = n ≡ 0
Bring s (c ∷ changes) n = (new : Tree) × UnfoldsTo s c.new new
    × (rest : ℕ) × (n ≡ size new + rest) × Bring s changes rest

abbrev mutual
  -- the second tree is the first with trees in the place of some parts, however these are chosen,
  -- that have so many terms in all
  pub IsMadeWith : Tree → Tree → ℕ → Type 0
  IsMadeWith (tree head ts) (tree other us) n =
      (n ≡ size (tree other us)) ⊎ ((head ≡ other) × AreMadeWith ts us n)

  pub AreMadeWith : Trees → Trees → ℕ → Type 0
  AreMadeWith no_more no_more n = n ≡ 0
  AreMadeWith no_more (one_more u us) n = ⊥
  AreMadeWith (one_more t ts) no_more n = ⊥
  AreMadeWith (one_more t ts) (one_more u us) n =
      (first : ℕ) × (rest : ℕ) × (n ≡ first + rest) × IsMadeWith t u first × AreMadeWith ts us rest

-- no other way to make the second tree of the first brings fewer terms
abbrev pub BringLeast : Store → Tree → Tree → List Swap → Type 0
BringLeast s t u changes = (m n : ℕ) → Bring s changes m → IsMadeWith t u n → m ≤ n
