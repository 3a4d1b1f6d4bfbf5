-- Walks over terms: what was found, and what is open.
use Rattle.std.proofs.Common.{◌≡◌, ◌⊎◌, inl, inr, Bool, true, false, cond, ◌||◌, List, [], ◌∷◌, ◌++◌, map, Some, IsSome, refl, sym, ap, subst, ◌∙◌}
use Rattle.std.specs.List.{list_any, AllByRecursion, IsDistinct}
use Rattle.std.proofs.lemmas.Bool.{and_parts, and_from, or_cases, or_left, or_right}
use Rattle.std.proofs.lemmas.List.{map-append}
use Rattle.std.proofs.lemmas.List.Folds.{list_any-append}
use Rattle.indexmap.specs.IndexSet.{insert_key}
use Rattle.ra_ap_intern.specs.Names.{has}
use Rattle.ra_ap_intern.specs.Name.{Name}
use Rattle.ra_ap_intern.specs.Reach.{IsPath, Reached, IsReachedSet}
use Rattle.ra_ap_intern.specs.Named.{same_name}
use Rattle.ra_ap_intern.specs.Sliced.{Sliced}
use Rattle.ra_ap_intern.specs.State.{State, reads}
use Rattle.ra_ap_intern.specs.declared.symbol.Symbol.{Symbol}
use Rattle.ra_ap_intern.proofs.CallerLemmas.{has_first, some_read, entry_read, children_read, names_same, same_names}
use Rattle.intern_terms.specs.Handle.{term_name}
use Rattle.intern_terms.specs.Store.{arguments, declared_by, terms_of}
use Rattle.intern_terms.specs.Walk.{begins_at, InOrder, IsWalk, with_name}
use Rattle.intern_terms.specs.declared.handle.TermRef.{TermRef}

pub true_or_false : (t : Bool) → (t ≡ true) ⊎ (t ≡ false)
true_or_false true = inl refl
true_or_false false = inr refl

neither : (a b : Bool) → (a || b) ≡ false → (a ≡ false) × (b ≡ false)
neither true b is = absurd (cc)
neither false b is = (refl, is)

or_neither : (a b : Bool) → a ≡ false → b ≡ false → (a || b) ≡ false
or_neither true b p q = absurd (cc)
or_neither false b p q = q

-- terms are found by their names
module _ (eq : TermRef → TermRef → Bool)
    (same : (a b : TermRef) → eq a b ≡ same_name (term_name a) (term_name b)) where
  pub found_by : (x : TermRef) (xs : List TermRef)
      → list_any (eq x) xs ≡ has (map term_name xs) (term_name x)
  found_by x [] = refl
  found_by x (y ∷ ys) = λ i. same x y i || found_by x ys i

  pub added_by : (x : TermRef) (xs : List TermRef)
      → map term_name (insert_key eq xs x) ≡ with_name (map term_name xs) (term_name x)
  added_by x xs =
      ap (λ t. map term_name (cond t xs (xs ++ x ∷ []))) (found_by x xs)
      ∙ split (has (map term_name xs) (term_name x))
    where
      split : (t : Bool) → map term_name (cond t xs (xs ++ x ∷ []))
          ≡ cond t (map term_name xs) (map term_name xs ++ term_name x ∷ [])
      split true = refl
      split false = map-append term_name xs (x ∷ [])

-- a list of names with one more
module _ (names : List Name) (n : Name) where
  last_has : (x : Name) → has (names ++ n ∷ []) x ≡ (has names x || (same_name x n || false))
  last_has x = list_any-append (same_name x) names (n ∷ [])

  pub with_new : has names n ≡ false → with_name names n ≡ names ++ n ∷ []
  with_new new = ap (λ t. cond t names (names ++ n ∷ [])) new

  pub with_later : (x : Name) → has names x ≡ true → has (with_name names n) x ≡ true
  with_later x is = go (has names n)
    where
      go : (t : Bool) → has (cond t names (names ++ n ∷ [])) x ≡ true
      go true = is
      go false = last_has x ∙ or_left _ _ is

  pub with_itself : has (with_name names n) n ≡ true
  with_itself = go (has names n) refl
    where
      go : (t : Bool) → has names n ≡ t → has (cond t names (names ++ n ∷ [])) n ≡ true
      go true is = is
      go false is = last_has n ∙ or_right _ _ (or_left _ _ (same_names n n refl))

  pub with_cases : (x : Name) → has (with_name names n) x ≡ true
      → (x ≡ n) ⊎ (has names x ≡ true)
  with_cases x is = go (has names n) is
    where
      last : (same_name x n ≡ true) ⊎ (false ≡ true) → (x ≡ n) ⊎ (has names x ≡ true)
      last (inl here) = inl (names_same x n here)
      last (inr none) = absurd (cc)

      either : (has names x ≡ true) ⊎ ((same_name x n || false) ≡ true)
          → (x ≡ n) ⊎ (has names x ≡ true)
      either (inl before) = inr before
      either (inr at) = last (or_cases _ _ at)

      go : (t : Bool) → has (cond t names (names ++ n ∷ [])) x ≡ true
          → (x ≡ n) ⊎ (has names x ≡ true)
      go true h = inr h
      go false h = either (or_cases _ _ (sym (last_has x) ∙ h))

  pub with_other : (x : Name) → has names x ≡ false → same_name x n ≡ false
      → has (with_name names n) x ≡ false
  with_other x none other = go (has names n)
    where
      go : (t : Bool) → has (cond t names (names ++ n ∷ [])) x ≡ false
      go true = none
      go false = last_has x ∙ or_neither _ _ none (or_neither _ _ other refl)

-- the order of what was found
module _ (s : State (Sliced Symbol TermRef)) where
  -- a name behind the others
  order_on : (before names : List Name) (n : Name) → InOrder s before names
      → has before n ≡ false → has names n ≡ false
      → ((v : Sliced Symbol TermRef) (a : Name) → reads s n ≡ Some v → has (arguments v) a ≡ true
      → (has before a ≡ true) ⊎ (has names a ≡ true))
      → InOrder s before (names ++ n ∷ [])
  order_on before [] n o new none args = (new, λ v a r h. go a (args v a r h), tt)
    where
      go : (a : Name) → (has before a ≡ true) ⊎ (has [] a ≡ true) → has before a ≡ true
      go a (inl is) = is
      go a (inr none) = absurd (cc)
  order_on before (x ∷ xs) n o new none args =
      let parts = neither _ _ none in (
        o.0,
        o.1,
        order_on (x ∷ before) xs n o.2 (or_neither _ _ parts.0 new) parts.1
            (λ v a r h. go a (args v a r h)),
      )
    where
      later : (a : Name) → (same_name a x ≡ true) ⊎ (has xs a ≡ true)
          → (has (x ∷ before) a ≡ true) ⊎ (has xs a ≡ true)
      later a (inl here) = inl (or_left _ _ here)
      later a (inr is) = inr is

      go : (a : Name) → (has before a ≡ true) ⊎ (has (x ∷ xs) a ≡ true)
          → (has (x ∷ before) a ≡ true) ⊎ (has xs a ≡ true)
      go a (inl is) = inl (or_right _ _ is)
      go a (inr is) = later a (or_cases _ _ is)

  -- an argument of what was found was found, or came before
  order_closed : (before names : List Name) → InOrder s before names → (n a : Name)
      (v : Sliced Symbol TermRef) → has names n ≡ true → reads s n ≡ Some v
      → has (arguments v) a ≡ true → (has before a ≡ true) ⊎ (has names a ≡ true)
  order_closed before [] o n a v is read h = absurd (cc)
  order_closed before (x ∷ xs) o n a v is read h =
      go (or_cases _ _ is) (λ there. order_closed (x ∷ before) xs o.2 n a v there read h)
    where
      first : (same_name a x ≡ true) ⊎ (has before a ≡ true)
          → (has before a ≡ true) ⊎ (has (x ∷ xs) a ≡ true)
      first (inl here) = inr (or_left _ _ here)
      first (inr there) = inl there

      later : (has (x ∷ before) a ≡ true) ⊎ (has xs a ≡ true)
          → (has before a ≡ true) ⊎ (has (x ∷ xs) a ≡ true)
      later (inl b) = first (or_cases _ _ b)
      later (inr b) = inr (or_right _ _ b)

      go : (same_name n x ≡ true) ⊎ (has xs n ≡ true)
          → (has xs n ≡ true → (has (x ∷ before) a ≡ true) ⊎ (has xs a ≡ true))
          → (has before a ≡ true) ⊎ (has (x ∷ xs) a ≡ true)
      go (inl here) rest =
          inl (o.1 v a (subst (λ m. reads s m ≡ Some v) (names_same n x here) read) h)
      go (inr there) rest = later (rest there)

  pub order_has_arguments : (names : List Name) → InOrder s [] names → (n a : Name)
      (v : Sliced Symbol TermRef) → has names n ≡ true → reads s n ≡ Some v
      → has (arguments v) a ≡ true → has names a ≡ true
  order_has_arguments names o n a v is read h = go (order_closed [] names o n a v is read h)
    where
      go : (has [] a ≡ true) ⊎ (has names a ≡ true) → has names a ≡ true
      go (inl none) = absurd (cc)
      go (inr there) = there

  -- no name comes twice
  not_before : (before names : List Name) → InOrder s before names → (b : Name)
      → has before b ≡ true → AllByRecursion (λ y. same_name b y ≡ false) names
  not_before before [] o b is = tt
  not_before before (y ∷ ys) o b is =
      (go (true_or_false (same_name b y)), not_before (y ∷ before) ys o.2 b (or_right _ _ is))
    where
      go : (same_name b y ≡ true) ⊎ (same_name b y ≡ false) → same_name b y ≡ false
      go (inl here) =
          let there : has before y ≡ true = subst (λ m. has before m ≡ true) (names_same b y here) is in
          let gone = o.0 in
          absurd (cc)
      go (inr other) = other

  order_once : (before names : List Name) → InOrder s before names → IsDistinct same_name names
  unfolding IsDistinct
  order_once before [] o = tt
  order_once before (x ∷ xs) o = (
    not_before (x ∷ before) xs o.2 x (has_first x before),
    order_once (x ∷ before) xs o.2,
  )

-- what is reached from the listed names
module _ (listed : List Name) (s : State (Sliced Symbol TermRef)) where
  pub root_reached : (n : Name) → IsSome (reads s n) → has listed n ≡ true
      → Reached (begins_at listed s) (terms_of s) n
  root_reached n there is = ([], and_from _ _ there is)

  -- an argument of what is reached
  pub argument_reached : (n a : Name) (v : Sliced Symbol TermRef) → reads s n ≡ Some v
      → has (arguments v) a ≡ true → IsSome (reads s a)
      → Reached (begins_at listed s) (terms_of s) n
      → Reached (begins_at listed s) (terms_of s) a
  argument_reached n a v read h there path =
      let entry = entry_read declared_by s a ∙ there in
      let child = ap (λ xs. has xs a) (children_read declared_by s n v read) ∙ h in
      (n ∷ path.0, (entry, child, path.1))

  pub nothing_found : IsWalk listed s []
  nothing_found = record { order = tt; reached = λ n is. absurd (cc) }

  -- a name whose arguments were found is found
  pub walk_on : (found : List Name) (n : Name) → IsWalk listed s found → has found n ≡ false
      → Reached (begins_at listed s) (terms_of s) n
      → ((v : Sliced Symbol TermRef) (a : Name) → reads s n ≡ Some v → has (arguments v) a ≡ true
      → has found a ≡ true)
      → IsWalk listed s (with_name found n)
  walk_on found n w new path args = record {
    order = subst (λ (names : List Name). InOrder s [] names) (sym (with_new found n new))
        (order_on s [] found n w.order refl new (λ v a r h. inr (args v a r h)));
    reached = λ x is. go x (with_cases found n x is);
  }
    where
      go : (x : Name) → (x ≡ n) ⊎ (has found x ≡ true)
          → Reached (begins_at listed s) (terms_of s) x
      go x (inl here) = subst (Reached (begins_at listed s) (terms_of s)) (sym here) path
      go x (inr is) = w.reached x is

  -- where the listed terms were found, all that they reach was
  module _ (found : List Name) (w : IsWalk listed s found)
      (all : (a : Name) → has listed a ≡ true → IsSome (reads s a) → has found a ≡ true) where
    there_on : (before : List Name) (n : Name)
        → IsPath (begins_at listed s) (terms_of s) before n → IsSome (reads s n)
    there_on [] n p = (and_parts _ _ p).0
    there_on (parent ∷ before) n p = sym (entry_read declared_by s n) ∙ p.0

    found_on : (before : List Name) (n : Name)
        → IsPath (begins_at listed s) (terms_of s) before n → has found n ≡ true
    found_on [] n p = let parts = and_parts _ _ p in all n parts.1 parts.0
    found_on (parent ∷ before) n p =
        let v = some_read (reads s parent) (there_on before parent p.2) in
        let child = sym (ap (λ xs. has xs n) (children_read declared_by s parent v.0 v.1)) ∙ p.1 in
        order_has_arguments s found w.order parent n v.0 (found_on before parent p.2) v.1 child

    pub walk_reaches : IsReachedSet (begins_at listed s) (terms_of s) found
    walk_reaches = record {
      once = order_once s [] found w.order;
      reached = λ n. (w.reached n, λ path. found_on path.0 n path.1);
    }
