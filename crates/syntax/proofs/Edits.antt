-- What leads from a tree to another, part by part.
use Rattle.std.proofs.Common.{◌≡◌, ℕ, ◌+◌, ◌≤◌, List, [], ◌∷◌, ◌++◌, length, map, reverse, Bool, true, false, rules, Option, Some, refl, sym, ap, subst, ◌∙◌, append_assoc, inl, inr, add-one, arith}
use Rattle.std.specs.Prelude.{◌↔◌, IsTrue, IfNone}
use Rattle.std.specs.Bool.{then_some}
use Rattle.std.proofs.lemmas.List.{append-nil, reverse-append, map-append}
use Rattle.std.specs.Option.{option_map}
use Rattle.intern_terms.specs.Handle.{term_name}
use Rattle.intern_terms.specs.Tree.{Tree, Trees, tree, no_more, one_more, UnfoldsTo}
use Rattle.intern_terms.specs.declared.handle.TermRef.{TermRef}
use Rattle.ra_ap_intern.specs.Name.{Name}
use Rattle.ra_ap_intern.specs.Sliced.{Sliced}
use Rattle.ra_ap_intern.specs.State.{reads}
use Rattle.ra_ap_intern.specs.Symbols.{symbol_name}
use Rattle.ra_ap_intern.specs.declared.symbol.Symbol.{Symbol}
use Rattle.syntax.specs.Changes.{Swap, swap, Alike, HaveParts, Changed, AllChanged, olds_of, news_of, size, sizes}
use Rattle.syntax.specs.Parsing.{Store, Stand}
use Rattle.syntax.specs.declared.change.Change.{Change}
use Rattle.intern_terms.proofs.CallerTerms.{joined, forest_length, forest_append, tree_head, tree_arguments}

-- after so many looks: what was told, and what is told of these pairs, leads from a tree to
-- another, and the looks and the terms that are left are no more than the tree has terms in it
pub record Leads (s : Store) (looks : ℕ) (olds news : List TermRef) (told : List Swap) (t u : Tree)
    : Type 0
  where
    pub old_trees : Trees
    pub new_trees : Trees
    pub olds_stand : Stand s olds old_trees
    pub news_stand : Stand s news new_trees
    pub lead : (rest : List Swap) → AllChanged s old_trees new_trees rest
        → Changed s t u (told ++ rest)
    pub within : looks + sizes old_trees ≤ size t

changed_none : (s : Store) (t u : Tree) → t ≡ u → Changed s t u []
changed_none s (tree head ts) (tree other us) is = inl (is, refl)

changed_whole : (s : Store) (t u : Tree) (c : Swap) → ¬ (Alike t u) → UnfoldsTo s c.old t
    → UnfoldsTo s c.new u → Changed s t u (c ∷ [])
changed_whole s (tree head ts) (tree other us) c not old new =
    inr (inl (not, (c, refl, old, new)))

pub leads_first : (s : Store) (a b : TermRef) (t u : Tree) → UnfoldsTo s (term_name a) t
    → UnfoldsTo s (term_name b) u → Leads s 0 (a ∷ []) (b ∷ []) [] t u
leads_first s a b t u old new = record {
  old_trees = one_more t no_more;
  new_trees = one_more u no_more;
  olds_stand = (old, tt);
  news_stand = (new, tt);
  lead = λ rest all.
      subst (Changed s t u) (sym (all.2 ∙ ap (λ more. all.0 ++ more) all.4 ∙ append-nil all.0))
      all.3;
  within = let all : sizes (one_more t no_more) ≡ size t + 0 = refl in omega arith;
}

pub leads_last : (s : Store) (looks : ℕ) (told : List Swap) (t u : Tree)
    → Leads s looks [] [] told t u → Changed s t u told
leads_last s looks told t u is =
    subst (Changed s t u) (append-nil told)
    (is.lead [] (none is.old_trees is.new_trees is.olds_stand is.news_stand))
  where
    none : (ts us : Trees) → Stand s [] ts → Stand s [] us → AllChanged s ts us []
    none no_more no_more olds news = refl
    none no_more (one_more u us) olds news = absurd news
    none (one_more t ts) us olds news = absurd olds

-- the trees of the first pair, and what leads on from the others
pub record LeadsOver (s : Store) (looks : ℕ) (a b : TermRef) (olds news : List TermRef)
    (told : List Swap) (t u : Tree) : Type 0
  where
    pub old : Tree
    pub new : Tree
    pub old_is : UnfoldsTo s (term_name a) old
    pub new_is : UnfoldsTo s (term_name b) new
    pub old_trees : Trees
    pub new_trees : Trees
    pub olds_stand : Stand s olds old_trees
    pub news_stand : Stand s news new_trees
    pub lead : (rest : List Swap) → AllChanged s (one_more old old_trees) (one_more new new_trees)
        rest → Changed s t u (told ++ rest)
    pub within : looks + (size old + sizes old_trees) ≤ size t

pub leads_over : (s : Store) (looks : ℕ) (a b : TermRef) (olds news : List TermRef)
    (told : List Swap) (t u : Tree) → Leads s looks (a ∷ olds) (b ∷ news) told t u
    → LeadsOver s looks a b olds news told t u
leads_over s looks a b olds news told t u is =
    go is.old_trees is.new_trees is.olds_stand is.news_stand is.lead is.within
  where
    go : (ts us : Trees) → Stand s (a ∷ olds) ts → Stand s (b ∷ news) us
        → ((rest : List Swap) → AllChanged s ts us rest → Changed s t u (told ++ rest))
        → looks + sizes ts ≤ size t → LeadsOver s looks a b olds news told t u
    go no_more us old new lead within = absurd old
    go (one_more v vs) no_more old new lead within = absurd new
    go (one_more v vs) (one_more w ws) old new lead within = record {
      old = v;
      new = w;
      old_is = old.0;
      new_is = new.0;
      old_trees = vs;
      new_trees = ws;
      olds_stand = old.1;
      news_stand = new.1;
      lead = lead;
      within = within;
    }

-- each tree has a term in it
some_size : (t : Tree) → 1 ≤ size t
some_size (tree head ts) = let all : size (tree head ts) ≡ sizes ts + 1 = sym (add-one (sizes ts)) in omega arith

-- what is left once a tree was looked at
rest_within : (looks : ℕ) (first t : Tree) (rest : Trees)
    → looks + (size first + sizes rest) ≤ size t → looks + 1 + sizes rest ≤ size t
rest_within looks first t rest within = let some = some_size first in omega arith

sizes_joined : (ts us : Trees) → sizes (joined ts us) ≡ sizes ts + sizes us
sizes_joined no_more us =
    let left : sizes (joined no_more us) ≡ sizes us = refl in
    let right : sizes no_more ≡ 0 = refl in omega arith
sizes_joined (one_more t ts) us =
    let more = sizes_joined ts us in
    let left : sizes (joined (one_more t ts) us) ≡ size t + sizes (joined ts us) = refl in
    let right : sizes (one_more t ts) ≡ size t + sizes ts = refl in omega arith

-- equal trees are passed over
pub leads_same : (s : Store) (looks : ℕ) (a b : TermRef) (olds news : List TermRef)
    (told : List Swap) (t u : Tree) → (is : LeadsOver s looks a b olds news told t u)
    → is.old ≡ is.new → Leads s (looks + 1) olds news told t u
leads_same s looks a b olds news told t u is same = record {
  old_trees = is.old_trees;
  new_trees = is.new_trees;
  olds_stand = is.olds_stand;
  news_stand = is.news_stand;
  lead = λ rest all. is.lead rest ([], rest, refl, changed_none s is.old is.new same, all);
  within = rest_within looks is.old t is.old_trees is.within;
}

-- trees that aren't alike are told
pub leads_told : (s : Store) (looks : ℕ) (c : Change) (olds news : List TermRef)
    (told : List Swap) (t u : Tree)
    → (is : LeadsOver s looks c.old.tree c.new.tree olds news told t u)
    → ¬ (Alike is.old is.new) → Leads s (looks + 1) olds news (told ++ swap c ∷ []) t u
leads_told s looks c olds news told t u is not = record {
  old_trees = is.old_trees;
  new_trees = is.new_trees;
  olds_stand = is.olds_stand;
  news_stand = is.news_stand;
  lead = λ rest all.
      subst (Changed s t u) (sym (append_assoc told (swap c ∷ []) rest))
      (is.lead (swap c ∷ rest) (
        swap c ∷ [],
        rest,
        refl,
        changed_whole s is.old is.new (swap c) not is.old_is is.new_is,
        all,
      ));
  within = rest_within looks is.old t is.old_trees is.within;
}

-- changes of parts, and of what follows them
record Split (s : Store) (ts us vs ws : Trees) (changes : List Swap) : Type 0 where
  pub first : List Swap
  pub rest : List Swap
  pub whole : changes ≡ first ++ rest
  pub parts : AllChanged s ts us first
  pub others : AllChanged s vs ws rest

split : (s : Store) (xs ys : List TermRef) (ts us vs ws : Trees) → Stand s xs ts → Stand s ys us
    → length xs ≡ length ys → (changes : List Swap)
    → AllChanged s (joined ts vs) (joined us ws) changes → Split s ts us vs ws changes
split s [] [] no_more no_more vs ws old new same changes all =
    record { first = []; rest = changes; whole = refl; parts = refl; others = all }
split s [] [] no_more (one_more u us) vs ws old new same changes all = absurd new
split s [] [] (one_more t ts) us vs ws old new same changes all = absurd old
split s [] (y ∷ ys) ts us vs ws old new same changes all = absurd (omega arith)
split s (x ∷ xs) [] ts us vs ws old new same changes all = absurd (omega arith)
split s (x ∷ xs) (y ∷ ys) no_more us vs ws old new same changes all = absurd old
split s (x ∷ xs) (y ∷ ys) (one_more t ts) no_more vs ws old new same changes all = absurd new
split s (x ∷ xs) (y ∷ ys) (one_more t ts) (one_more u us) vs ws old new same changes all =
    let less : length xs ≡ length ys = omega arith in
    let more = split s xs ys ts us vs ws old.1 new.1 less all.1 all.4 in
    record {
      first = all.0 ++ more.first;
      rest = more.rest;
      whole = all.2 ∙ ap (λ rest. all.0 ++ rest) more.whole
          ∙ sym (append_assoc all.0 more.first more.rest);
      parts = (all.0, more.first, refl, all.3, more.parts);
      others = more.others;
    }

-- of trees that are alike the parts are told
pub leads_inside : (s : Store) (looks : ℕ) (a b : TermRef) (olds news xs ys : List TermRef)
    (told : List Swap) (t u : Tree) → (is : LeadsOver s looks a b olds news told t u)
    → HaveParts s is.old is.new xs ys → length xs ≡ length ys
    → Leads s (looks + 1) (xs ++ olds) (ys ++ news) told t u
leads_inside s looks a b olds news xs ys told t u is have same =
    go is.old is.new have is.lead is.within
  where
    go : (v w : Tree) → HaveParts s v w xs ys
        → ((rest : List Swap) → AllChanged s (one_more v is.old_trees) (one_more w is.new_trees)
        rest → Changed s t u (told ++ rest))
        → looks + (size v + sizes is.old_trees) ≤ size t
        → Leads s (looks + 1) (xs ++ olds) (ys ++ news) told t u
    go (tree head ts) (tree other us) have lead within = record {
      old_trees = joined ts is.old_trees;
      new_trees = joined us is.new_trees;
      olds_stand = forest_append s ts is.old_trees xs olds have.1 is.olds_stand;
      news_stand = forest_append s us is.new_trees ys news have.2 is.news_stand;
      lead = λ rest all.
          let parts = split s xs ys ts us is.old_trees is.new_trees have.1 have.2 same rest all in
          lead rest (
            parts.first,
            parts.rest,
            parts.whole,
            inr (inr (have.0, parts.parts)),
            parts.others,
          );
      within =
          let parts = sizes_joined ts is.old_trees in
          let whole : size (tree head ts) ≡ sizes ts + 1 = sym (add-one (sizes ts)) in omega arith;
    }

-- terms that stand for trees that are alike have one head, and as many arguments
pub alike_terms : (s : Store) (n m : Name) (t u : Tree) (a b : Sliced Symbol TermRef)
    → UnfoldsTo s n t → UnfoldsTo s m u → Some a ≡ reads s n → Some b ≡ reads s m → Alike t u
    → (symbol_name a.header ≡ symbol_name b.header) × (length a.items ≡ length b.items)
alike_terms s n m (tree head ts) (tree other us) a b old new read_a read_b alike = (
  tree_head s n head ts old a.header (ap (option_map (λ v. v.header)) read_a) ∙ alike.0
      ∙ sym (tree_head s m other us new b.header (ap (option_map (λ v. v.header)) read_b)),
  sym (forest_length s ts a.items
      (tree_arguments s n head ts old a.items (ap (option_map (λ v. v.items)) read_a))) ∙ alike.1
      ∙ forest_length s us b.items
      (tree_arguments s m other us new b.items (ap (option_map (λ v. v.items)) read_b)),
)

-- what is given where a test holds is lacking only where it doesn't
pub none_where : {T : Type 0} (r : Option T) (b : Bool) (x : T) (P : Type 0) → r ≡ then_some b x
    → (P → b ≡ true) → IfNone r (P → ⊥)
none_where r true x P is holds = subst (λ o. IfNone o (P → ⊥)) (sym is) tt
none_where r false x P is holds =
    subst (λ o. IfNone o (P → ⊥)) (sym is) (λ p. let so = holds p in absurd (cc))

-- more pairs on the stack
pub olds_more : (pairs others : List Change) (olds : List TermRef)
    → olds_of (reverse pairs) ≡ olds → (c : Change) → others ≡ pairs ++ c ∷ []
    → olds_of (reverse others) ≡ c.old.tree ∷ olds
olds_more pairs others olds is c pushed =
    ap (λ all. olds_of (reverse all)) pushed ∙ ap olds_of (reverse-append pairs (c ∷ []))
    ∙ ap (λ more. c.old.tree ∷ more) is

pub news_more : (pairs others : List Change) (news : List TermRef)
    → news_of (reverse pairs) ≡ news → (c : Change) → others ≡ pairs ++ c ∷ []
    → news_of (reverse others) ≡ c.new.tree ∷ news
news_more pairs others news is c pushed =
    ap (λ all. news_of (reverse all)) pushed ∙ ap news_of (reverse-append pairs (c ∷ []))
    ∙ ap (λ more. c.new.tree ∷ more) is

-- the last pair of a stack is the first to be looked at
last_pair : (pairs all : List Change) (c : Change) → all ≡ pairs ++ c ∷ []
    → reverse all ≡ c ∷ reverse pairs
last_pair pairs all c is = ap reverse is ∙ reverse-append pairs (c ∷ [])

pub leads_popped : (s : Store) (looks : ℕ) (pairs all : List Change) (c : Change)
    (told : List Swap) (t u : Tree) → all ≡ pairs ++ c ∷ []
    → Leads s looks (olds_of (reverse all)) (news_of (reverse all)) told t u
    → LeadsOver s looks c.old.tree c.new.tree (olds_of (reverse pairs)) (news_of (reverse pairs))
    told t u
leads_popped s looks pairs all c told t u is lead =
    leads_over s looks c.old.tree c.new.tree (olds_of (reverse pairs)) (news_of (reverse pairs))
    told t u
    (subst (λ ps. Leads s looks (olds_of ps) (news_of ps) told t u) (last_pair pairs all c is) lead)

pub leads_init : (s : Store) (c : Change) (pairs told : List Change) (t u : Tree)
    → pairs ≡ c ∷ [] → told ≡ [] → UnfoldsTo s (term_name c.old.tree) t
    → UnfoldsTo s (term_name c.new.tree) u
    → Leads s 0 (olds_of (reverse pairs)) (news_of (reverse pairs)) (map swap told) t u
leads_init s c pairs told t u is none old new =
    subst (λ ps. Leads s 0 (olds_of (reverse ps)) (news_of (reverse ps)) (map swap told) t u)
    (sym is)
    (subst (λ ts. Leads s 0 (c.old.tree ∷ []) (c.new.tree ∷ []) (map swap ts) t u) (sym none)
    (leads_first s c.old.tree c.new.tree t u old new))

pub leads_end : (s : Store) (looks : ℕ) (pairs told : List Change) (t u : Tree) → pairs ≡ []
    → Leads s looks (olds_of (reverse pairs)) (news_of (reverse pairs)) (map swap told) t u
    → Changed s t u (map swap told)
leads_end s looks pairs told t u none is =
    leads_last s looks (map swap told) t u
    (subst (λ ps. Leads s looks (olds_of (reverse ps)) (news_of (reverse ps)) (map swap told) t u)
    none is)

pub leads_as : (s : Store) (looks : ℕ) (olds olds_now news news_now : List TermRef)
    (told told_now : List Swap) (t u : Tree) → olds_now ≡ olds → news_now ≡ news → told_now ≡ told
    → Leads s looks olds news told t u → Leads s looks olds_now news_now told_now t u
leads_as s looks olds olds_now news news_now told told_now t u first second third is =
    subst (λ x. Leads s looks x news_now told_now t u) (sym first)
    (subst (λ x. Leads s looks olds x told_now t u) (sym second)
    (subst (λ x. Leads s looks olds news x t u) (sym third) is))

-- after as many looks as are allowed, the tree has at least so many terms in it
pub leads_long : (s : Store) (looks most : ℕ) (olds news : List TermRef) (told : List Swap)
    (t u : Tree) → most ≤ looks → Leads s looks olds news told t u → most ≤ size t
leads_long s looks most olds news told t u all is = let within = is.within in omega arith

pub told_more : (told all : List Change) (c : Change) → all ≡ told ++ c ∷ []
    → map swap all ≡ map swap told ++ swap c ∷ []
told_more told all c is = ap (map swap) is ∙ map-append swap told (c ∷ [])

pub same_told : (b : Bool) (P : Type 0) → b ≡ true → (IsTrue b ↔ P) → P
same_told true P is both = both.0 (search rules)
same_told false P is both = absurd (cc)
