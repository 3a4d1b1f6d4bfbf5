-- What is open while a walk goes on: each term below the one that declares it.
use Rattle.std.proofs.Common.{◌≡◌, ◌≢◌, ◌⊎◌, inl, inr, ℕ, zero, suc, ◌+◌, ◌*◌, ◌<◌, ◌≤◌, Bool, true, false, cond, ◌==◌, List, [], ◌∷◌, ◌++◌, map, length, Some, IsSome, refl, sym, subst, ◌∙◌, arith}
use Rattle.std.specs.List.{slice_get}
use Rattle.std.proofs.lemmas.Bool.{and_parts, eqb-true, eq-eqb, or_cases, or_left, or_right}
use Rattle.std.proofs.lemmas.Option.{slice_get_within}
use Rattle.std.proofs.Math.Nat.{mul-le-mul_right, suc-mul}
use Rattle.ra_ap_intern.specs.Names.{has}
use Rattle.ra_ap_intern.specs.Name.{Name}
use Rattle.ra_ap_intern.specs.Named.{same_name}
use Rattle.ra_ap_intern.specs.Order.{IsBefore}
use Rattle.ra_ap_intern.specs.Reach.{Reached}
use Rattle.ra_ap_intern.specs.Sliced.{Sliced}
use Rattle.ra_ap_intern.specs.State.{State, name_in, reads}
use Rattle.ra_ap_intern.specs.declared.symbol.Symbol.{Symbol}
use Rattle.ra_ap_intern.proofs.CallerLemmas.{read_at, some_read, names_same, same_names}
use Rattle.intern_terms.specs.Handle.{term_name}
use Rattle.intern_terms.specs.Store.{arguments, IsBuilt, terms_of}
use Rattle.intern_terms.specs.Walk.{begins_at, items_at, items_of, IsWalk, AreFound, with_name}
use Rattle.intern_terms.specs.declared.handle.TermRef.{TermRef}
use Rattle.intern_terms.specs.declared.walk.Open.{Open}
use Rattle.intern_terms.proofs.Walks.{true_or_false, with_later, with_itself, with_other, argument_reached, walk_on}

abbrev pub open_name : Open → Name
open_name o = term_name o.term

-- an open term is there, isn't found yet, and its first arguments are found; its birth is below
-- that of the term that declares it
pub record IsOpen (s : State (Sliced Symbol TermRef)) (found : List Name) (bound : ℕ) (o : Open)
    : Type 0
  where
    pub below : (open_name o).birth < bound
    pub there : IsSome (reads s (open_name o))
    pub unfound : has found (open_name o) ≡ false
    pub begun : AreFound found (items_at s (open_name o)) 0 o.found

abbrev pub AreOpen : State (Sliced Symbol TermRef) → List Name → ℕ → List Open → Type 0
AreOpen s found bound [] = Unit {0}
AreOpen s found bound (o ∷ os) = IsOpen s found bound o × AreOpen s found (open_name o).birth os

-- the birth of the last one, or the bound
abbrev pub limit : ℕ → List Open → ℕ
limit bound [] = bound
limit bound (o ∷ os) = limit (open_name o).birth os

-- each of them is reached
abbrev pub AllReached : List Name → State (Sliced Symbol TermRef) → List Open → Type 0
AllReached listed s [] = Unit {0}
AllReached listed s (o ∷ os) = Reached (begins_at listed s) (terms_of s) (open_name o)
    × AllReached listed s os

-- the first is that of this name
abbrev pub Begins : Name → List Open → Type 0
Begins root [] = ⊥
Begins root (o ∷ os) = open_name o ≡ root

module _ (listed : List Name) (s : State (Sliced Symbol TermRef)) where
  pub reached_push : (os : List Open) (o : Open) → AllReached listed s os
      → Reached (begins_at listed s) (terms_of s) (open_name o)
      → AllReached listed s (os ++ o ∷ [])
  reached_push [] o all path = (path, tt)
  reached_push (p ∷ ps) o all path = (all.0, reached_push ps o all.1 path)

  pub reached_pop : (os : List Open) (o : Open) → AllReached listed s (os ++ o ∷ [])
      → AllReached listed s os × Reached (begins_at listed s) (terms_of s) (open_name o)
  reached_pop [] o all = (tt, all.0)
  reached_pop (p ∷ ps) o all =
      let rest = reached_pop ps o all.1 in
      ((all.0, rest.0), rest.1)

pub begins_push : (root : Name) (os : List Open) (o : Open) → Begins root os
    → Begins root (os ++ o ∷ [])
begins_push root [] o is = absurd is
begins_push root (p ∷ ps) o is = is

-- in place of the last one, another of its name
pub begins_again : (root : Name) (os : List Open) (o p : Open) → open_name p ≡ open_name o
    → Begins root (os ++ o ∷ []) → Begins root (os ++ p ∷ [])
begins_again root [] o p same is = same ∙ is
begins_again root (q ∷ qs) o p same is = is

-- without the last one: it was the first, or the first is still there
pub begins_pop : (root : Name) (os : List Open) (o : Open) → Begins root (os ++ o ∷ [])
    → (open_name o ≡ root) ⊎ Begins root os
begins_pop root [] o is = inl is
begins_pop root (p ∷ ps) o is = inr is

-- how high the births of open terms go, plus one
abbrev pub height : ℕ → List Open → ℕ
height acc [] = acc
height acc (o ∷ os) = height ((open_name o).birth + 1) os

pub height_push : (acc : ℕ) (os : List Open) (o : Open)
    → height acc (os ++ o ∷ []) ≡ (open_name o).birth + 1
height_push acc [] o = refl
height_push acc (p ∷ ps) o = height_push ((open_name p).birth + 1) ps o

lt_or_le : (k n : ℕ) → (k < n) ⊎ (n ≤ k)
lt_or_le k zero = inr (omega arith)
lt_or_le zero (suc n) = inl (omega arith)
lt_or_le (suc k) (suc n) = go (lt_or_le k n)
  where
    go : (k < n) ⊎ (n ≤ k) → (suc k < suc n) ⊎ (suc n ≤ suc k)
    go (inl lt) = inl (omega arith)
    go (inr le) = inr (omega arith)

eq_not_false : {t : Bool} → t ≡ true → t ≡ false → ⊥
eq_not_false p q = absurd (cc)

module _ (s : State (Sliced Symbol TermRef)) where
  module _ (found : List Name) where
    pub open_push : (bound : ℕ) (os : List Open) (o : Open) → AreOpen s found bound os
        → IsOpen s found (limit bound os) o → AreOpen s found bound (os ++ o ∷ [])
    open_push bound [] o all is = (is, tt)
    open_push bound (p ∷ ps) o all is = (all.0, open_push (open_name p).birth ps o all.1 is)

    pub open_pop : (bound : ℕ) (os : List Open) (o : Open) → AreOpen s found bound (os ++ o ∷ [])
        → AreOpen s found bound os × IsOpen s found (limit bound os) o
    open_pop bound [] o all = (tt, all.0)
    open_pop bound (p ∷ ps) o all =
        let rest = open_pop (open_name p).birth ps o all.1 in
        ((all.0, rest.0), rest.1)

    last_limit : (bound : ℕ) (os : List Open) (o : Open)
        → limit bound (os ++ o ∷ []) ≡ (open_name o).birth
    last_limit bound [] o = refl
    last_limit bound (p ∷ ps) o = last_limit (open_name p).birth ps o

    -- behind the last one, a term of a lower birth
    pub open_deeper : (bound : ℕ) (os : List Open) (o p : Open)
        → AreOpen s found bound (os ++ o ∷ []) → IsOpen s found (open_name o).birth p
        → AreOpen s found bound ((os ++ o ∷ []) ++ p ∷ [])
    open_deeper bound os o p all is =
        open_push bound (os ++ o ∷ []) p all
        (subst (λ b. IsOpen s found b p) (sym (last_limit bound os o)) is)

    last_below : (bound : ℕ) (os : List Open) (o : Open) → AreOpen s found bound (os ++ o ∷ [])
        → (open_name o).birth < bound
    last_below bound [] o all = all.0.below
    last_below bound (p ∷ ps) o all =
        let rest = last_below (open_name p).birth ps o all.1 in
        let here = all.0.below in
        omega arith

    pub height_within : (bound acc : ℕ) (os : List Open) → AreOpen s found bound os
        → acc ≤ bound + 1 → height acc os ≤ bound + 1
    height_within bound acc [] all is = is
    height_within bound acc (o ∷ os) all is =
        let here = all.0.below in
        let rest = height_within (open_name o).birth ((open_name o).birth + 1) os all.1 (omega arith) in
        omega arith

    -- names of other births are others
    lower_differs : (a b : Name) → b.birth < a.birth → same_name a b ≡ false
    lower_differs a b lt = go (true_or_false (same_name a b))
      where
        go : (same_name a b ≡ true) ⊎ (same_name a b ≡ false) → same_name a b ≡ false
        go (inl is) =
            let birth : a.birth ≡ b.birth = eqb-true a.birth b.birth (and_parts (a.storage == b.storage) (a.birth == b.birth) is).1 in
            absurd (omega arith)
        go (inr other) = other

    -- once the last one is found
    pub open_found : (bound : ℕ) (os : List Open) (o : Open) → AreOpen s found bound (os ++ o ∷ [])
        → AreOpen s (with_name found (open_name o)) bound os
    open_found bound [] o all = tt
    open_found bound (p ∷ ps) o all =
        let is = all.0 in
        let lower = last_below (open_name p).birth ps o all.1 in
        let unfound = with_other found (open_name o) (open_name p) is.unfound
        (lower_differs (open_name p) (open_name o) lower) in (
          record {
            below = is.below;
            there = is.there;
            unfound = unfound;
            begun = λ k a from to at.
                with_later found (open_name o) (term_name a) (is.begun k a from to at);
          },
          open_found (open_name p).birth ps o all.1,
        )

  -- how many births below k aren't found
  abbrev pub left : List Name → ℕ → ℕ
  left found zero = 0
  left found (suc k) = cond (has found (name_in s k)) 0 1 + left found k

  module _ (found : List Name) (n : Name) where
    missing_less : (x : Name)
        → cond (has (with_name found n) x) 0 1 ≤ cond (has found x) 0 1
    missing_less x = go (true_or_false (has found x))
      where
        most : (t : Bool) → cond {A = ℕ} t 0 1 ≤ 1
        most true = omega arith
        most false = omega arith

        go : (has found x ≡ true) ⊎ (has found x ≡ false)
            → cond (has (with_name found n) x) 0 1 ≤ cond (has found x) 0 1
        go (inl is) = rw (is, with_later found n x is) (omega arith)
        go (inr new) = rw new (most (has (with_name found n) x))

    left_less : (k : ℕ) → left (with_name found n) k ≤ left found k
    left_less zero = omega arith
    left_less (suc k) =
        let here = missing_less (name_in s k) in
        let rest = left_less k in
        omega arith

    pub left_smaller : n.storage ≡ s.number → has found n ≡ false → (k : ℕ) → n.birth < k
        → left (with_name found n) k < left found k
    left_smaller home new zero lt = absurd (omega arith)
    left_smaller home new (suc k) lt =
        go (true_or_false (n.birth == k)) (left_smaller home new k)
      where
        go : ((n.birth == k) ≡ true) ⊎ ((n.birth == k) ≡ false)
            → (n.birth < k → left (with_name found n) k < left found k)
            → left (with_name found n) (suc k) < left found (suc k)
        go (inl at) rest_less =
            let birth = eqb-true n.birth k at in
            let same : n ≡ name_in s k = λ i. record { storage = home i; birth = birth i } in
            let now = subst (λ m. has (with_name found n) m ≡ true) same (with_itself found n) in
            let before = subst (λ m. has found m ≡ false) same new in
            let rest = left_less k in
            rw (now, before) (omega arith)
        go (inr other) rest_less =
            let here = missing_less (name_in s k) in
            let differs : n.birth ≢ k = λ is. absurd (eq_not_false (eq-eqb n.birth k is) other) in
            let less : n.birth < k = omega arith in
            let rest = rest_less less in
            omega arith

  -- what is left to do
  abbrev pub work : List Name → List Open → ℕ
  work found os = left found s.next * (s.next + 2) + height 0 os

pub less_work : (l m n h g : ℕ) → l < m → h ≤ n + 1 → l * (n + 2) + h < m * (n + 2) + g
less_work l m n h g less within =
    let more : suc l * (n + 2) ≤ m * (n + 2) = mul-le-mul_right (n + 2) less in
    let product = suc-mul l (n + 2) in
    omega arith

-- what is at a position is in the list
has_at : (xs : List TermRef) (k : ℕ) (x : TermRef) → slice_get xs k ≡ Some x
    → has (map term_name xs) (term_name x) ≡ true
has_at [] k x at = absurd (cc)
has_at (y ∷ ys) zero x at =
    let same : term_name x ≡ term_name y = cc in
    or_left _ _ (same_names _ _ same)
has_at (y ∷ ys) (suc k) x at = or_right _ _ (has_at ys k x at)

-- what is in the list is at a position
record IsAt (xs : List TermRef) (name : Name) : Type 0 where
  position : ℕ
  term : TermRef
  at : slice_get xs position ≡ Some term
  same : term_name term ≡ name

at_some : (xs : List TermRef) (name : Name) → has (map term_name xs) name ≡ true → IsAt xs name
at_some [] name is = absurd (cc)
at_some (y ∷ ys) name is = go (or_cases _ _ is) (at_some ys name)
  where
    go : (same_name name (term_name y) ≡ true) ⊎ (has (map term_name ys) name ≡ true)
        → (has (map term_name ys) name ≡ true → IsAt ys name) → IsAt (y ∷ ys) name
    go (inl here) rest = record {
      position = zero;
      term = y;
      at = refl;
      same = sym (names_same _ _ here);
    }
    go (inr later) rest =
        let r = rest later in
        record { position = suc r.position; term = r.term; at = r.at; same = r.same }

-- listed terms that were found, one by one
pub found_listed : (s : State (Sliced Symbol TermRef)) (found : List Name) (terms : List TermRef)
    → ((k : ℕ) (t : TermRef) → k < length terms → slice_get terms k ≡ Some t
    → IsSome (reads s (term_name t)) → has found (term_name t) ≡ true)
    → (a : Name) → has (map term_name terms) a ≡ true → IsSome (reads s a) → has found a ≡ true
found_listed s found terms each a is there =
    let r = at_some terms a is in
    subst (λ n. has found n ≡ true) r.same
    (each r.position r.term (slice_get_within terms r.position r.term r.at) r.at
    (subst (λ n. IsSome (reads s n)) (sym r.same) there))

pub listed_at : (terms : List TermRef) (k : ℕ) (t : TermRef) → slice_get terms k ≡ Some t
    → has (map term_name terms) (term_name t) ≡ true
listed_at = has_at

module _ (s : State (Sliced Symbol TermRef)) (built : IsBuilt s) (found : List Name)
    (rest : List Open) (top : Open) (all : AreOpen s found s.next (rest ++ top ∷ [])) where
  here : IsOpen s found (limit s.next rest) top
  here = (open_pop s found s.next rest top all).1

  -- an argument of the last one isn't found yet
  module _ (index : ℕ) (argument : TermRef)
      (at : slice_get (items_at s (open_name top)) index ≡ Some argument)
      (unfound : has found (term_name argument) ≡ false)
      (before : AreFound found (items_at s (open_name top)) top.found index) where
    abbrev pub again : Open
    again = record { term = top.term; found = index }

    abbrev pub deeper : Open
    deeper = record { term = argument; found = 0 }

    read : (v : Sliced Symbol TermRef) × (reads s (open_name top) ≡ Some v)
    read = some_read (reads s (open_name top)) here.there

    declares : has (arguments read.0) (term_name argument) ≡ true
    declares = has_at read.0.items index argument
        (subst (λ o. slice_get (items_of o) index ≡ Some argument) read.1 at)

    earlier : IsBefore (term_name argument) (open_name top)
    earlier = built.falls (open_name top) (term_name argument) read.0 read.1 declares

    stands : IsSome (reads s (term_name argument))
    stands = built.stands (open_name top) (term_name argument) read.0 read.1 declares

    pub deeper_open : AreOpen s found s.next ((rest ++ again ∷ []) ++ deeper ∷ [])
    deeper_open =
        open_deeper s found s.next rest again deeper
        (open_push s found s.next rest again (open_pop s found s.next rest top all).0 (record {
          below = here.below;
          there = here.there;
          unfound = here.unfound;
          begun = λ k a from to is. go k a to is (lt_or_le k top.found);
        })) (record {
          below = earlier.birth;
          there = stands;
          unfound = unfound;
          begun = λ k a from to is. absurd (omega arith);
        })
      where
        go : (k : ℕ) (a : TermRef) → k < index → slice_get (items_at s (open_name top)) k ≡ Some a
            → (k < top.found) ⊎ (top.found ≤ k) → has found (term_name a) ≡ true
        go k a to is (inl low) = here.begun k a (omega arith) low is
        go k a to is (inr high) = before k a high to is

    pub deeper_reached : (listed : List Name) → AllReached listed s (rest ++ top ∷ [])
        → AllReached listed s ((rest ++ again ∷ []) ++ deeper ∷ [])
    deeper_reached listed are =
        let parts = reached_pop listed s rest top are in
        reached_push listed s (rest ++ again ∷ []) deeper
        (reached_push listed s rest again parts.0 parts.1)
        (argument_reached listed s (open_name top) (term_name argument) read.0 read.1 declares
        stands parts.1)

    pub deeper_less : work s found ((rest ++ again ∷ []) ++ deeper ∷ [])
        < work s found (rest ++ top ∷ [])
    deeper_less =
        let now = height_push 0 (rest ++ again ∷ []) deeper in
        let before = height_push 0 rest top in
        let lower = earlier.birth in
        rw (now, before) (omega arith)

  -- all arguments of the last one were found
  module _ (full : AreFound found (items_at s (open_name top)) top.found
      (length (items_at s (open_name top)))) where
    all_found : (v : Sliced Symbol TermRef) (a : Name) → reads s (open_name top) ≡ Some v
        → has (arguments v) a ≡ true → has found a ≡ true
    all_found v a read is =
        let r = at_some v.items a is in
        let at : slice_get (items_at s (open_name top)) r.position ≡ Some r.term =
        subst (λ o. slice_get (items_of o) r.position ≡ Some r.term) (sym read) r.at in
        let within = slice_get_within (items_at s (open_name top)) r.position r.term at in
        subst (λ n. has found n ≡ true) r.same
        (go r.position r.term within at (lt_or_le r.position top.found))
      where
        go : (k : ℕ) (t : TermRef) → k < length (items_at s (open_name top))
            → slice_get (items_at s (open_name top)) k ≡ Some t
            → (k < top.found) ⊎ (top.found ≤ k) → has found (term_name t) ≡ true
        go k t within at (inl low) = here.begun k t (omega arith) low at
        go k t within at (inr high) = full k t high within at

    pub done_walk : (listed : List Name) → IsWalk listed s found
        → AllReached listed s (rest ++ top ∷ [])
        → IsWalk listed s (with_name found (open_name top)) × AllReached listed s rest
    done_walk listed w are =
        let parts = reached_pop listed s rest top are in
        (walk_on listed s found (open_name top) w here.unfound parts.1 all_found, parts.0)

    pub done_less : work s (with_name found (open_name top)) rest < work s found (rest ++ top ∷ [])
    done_less =
        let v = some_read (reads s (open_name top)) here.there in
        let home = (read_at s (open_name top) v.0 v.1).home in
        less_work _ _ s.next _ _
        (left_smaller s found (open_name top) home here.unfound s.next (last_below s found s.next rest top all))
        (height_within s found s.next 0 rest (open_pop s found s.next rest top all).0 (omega arith))
