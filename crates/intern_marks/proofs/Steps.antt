-- What a mark call and the placing of a root do.
use Rattle.std.proofs.Common.{ℕ, ◌≡◌, ◌+◌, ◌-◌, ◌^◌, ◌≤◌, min, take, length, Bool, true, false, not, cond, ◌&&◌, ◌||◌, List, [], ◌∷◌, ◌++◌, Some, refl, sym, ◌∙◌, ap, arith, length-append}
use Rattle.std.specs.List.{IsDistinct, fold}
use Rattle.std.specs.FinMap.{get}
use Rattle.std.proofs.Math.Bool.{or-false}
use Rattle.std.proofs.lemmas.List.{take-append-le}
use Rattle.std.proofs.lemmas.Map.Keys.{IsDistinct-push}
use Rattle.intern_store.specs.declared.names.Name.{Name}
use Rattle.intern_store.specs.Named.{same_name}
use Rattle.intern_marks.specs.Names.{has}
use Rattle.intern_marks.specs.Marks.{Marks, may_be, placed, mark, marks, untold, root, roots}
use Rattle.intern_store.proofs.Named.{names_same}
use Rattle.intern_marks.proofs.Names.{same_name_is_equivalence, has_append}

-- the list with a name, where it may be marked and isn't
abbrev pub listed : Bool → List Name → Name → List Name
listed may names n = cond (may && not (has names n)) (names ++ n ∷ []) names

-- the list with a name behind it, or not
pub grown_has : (b : Bool) (names : List Name) (n x : Name) → has (cond b (names ++ n ∷ []) names) x ≡ (has names x || (same_name x n && b))
grown_has b names n x = grind (arith, has_append)

pub listed_has : (may : Bool) (names : List Name) (n x : Name) → has (listed may names n) x ≡ (has names x || (same_name x n && may))
listed_has may names n x = grind (arith, grown_has, names_same)

pub listed_once : (may : Bool) (names : List Name) (n : Name) → IsDistinct same_name names → IsDistinct same_name (listed may names n)
listed_once may names n once = let push = IsDistinct-push same_name_is_equivalence names n once in grind (arith, push)

-- what was listed stays in front
pub listed_front : (b : Bool) (names : List Name) (n : Name) (k : ℕ) → k ≤ length names
    → (k ≤ length (cond b (names ++ n ∷ []) names)) × (take k (cond b (names ++ n ∷ []) names) ≡ take k names)
listed_front b names n k within = grind (arith, take-append-le, length-append)

-- a step that lists a name where it may be marked
pub record IsPlacing (b : Bool) (step : Marks → Name → Marks) : Type 0 where
  pub registered : (m : Marks) (n : Name) → (step m n).registered ≡ m.registered
  pub visits : (m : Marks) (n : Name) → (step m n).visits ≡ m.visits
  pub marked : (m : Marks) (n : Name) → (step m n).marked ≡ listed (may_be b (get m.registered n)) m.marked n

pub mark_places : IsPlacing false mark
unfolding placed
mark_places = record { registered = λ m n. refl; visits = λ m n. refl; marked = λ m n. refl }

pub root_places : IsPlacing true root
unfolding placed
root_places = record { registered = λ m n. refl; visits = λ m n. refl; marked = λ m n. refl }

module _ (b : Bool) (step : Marks → Name → Marks) (places : IsPlacing b step) where
  pub each-registered : (m : Marks) (ns : List Name) → (fold step m ns).registered ≡ m.registered
  each-registered m [] = refl
  each-registered m (n ∷ ns) = each-registered (step m n) ns ∙ places.registered m n

  pub each-visits : (m : Marks) (ns : List Name) → (fold step m ns).visits ≡ m.visits
  each-visits m [] = refl
  each-visits m (n ∷ ns) = each-visits (step m n) ns ∙ places.visits m n

  -- what is marked was marked, or is among these names and may be
  pub each-has : (m : Marks) (ns : List Name) (x : Name) → has (fold step m ns).marked x ≡ (has m.marked x || (has ns x && may_be b (get m.registered x)))
  each-has m [] x = sym (or-false (has m.marked x))
  each-has m (n ∷ ns) x =
      let rest = each-has (step m n) ns x in
      let marked = ap (λ l. has l x) (places.marked m n) ∙ listed_has (may_be b (get m.registered n)) m.marked n x in
      grind (arith, rest, marked, places.registered m n, names_same)

  pub each-once : (m : Marks) (ns : List Name) → IsDistinct same_name m.marked → IsDistinct same_name (fold step m ns).marked
  each-once m [] once = once
  each-once m (n ∷ ns) once = each-once (step m n) ns (rw (places.marked m n) (listed_once (may_be b (get m.registered n)) m.marked n once))

  pub each-front : (m : Marks) (ns : List Name) (k : ℕ) → k ≤ length m.marked → (k ≤ length (fold step m ns).marked) × (take k (fold step m ns).marked ≡ take k m.marked)
  each-front m [] k within = (within, refl)
  each-front m (n ∷ ns) k within =
      let front = listed_front (may_be b (get m.registered n) && not (has m.marked n)) m.marked n k within in
      let rest = each-front (step m n) ns k (rw (places.marked m n) front.0) in
      (rest.0, rest.1 ∙ ap (take k) (places.marked m n) ∙ front.1)

-- the tally rises by one a call, up to the greatest u64
pub marks-calls : (m : Marks) (ns : List Name) → m.calls ≤ 2 ^ 64 - 1 → (marks m ns).calls ≡ min (m.calls + length ns) (2 ^ 64 - 1)
marks-calls m [] h = omega arith
marks-calls m (n ∷ ns) h = omega (arith, marks-calls (mark m n) ns (omega arith))

-- roots are no mark calls
pub roots-calls : (m : Marks) (ns : List Name) → (roots m ns).calls ≡ m.calls
unfolding placed
roots-calls m [] = refl
roots-calls m (n ∷ ns) = roots-calls (root m n) ns

-- where the counted names are marked, mark calls mark what roots do
abbrev AreMarked : Marks → Type 0
AreMarked m = (x : Name) → get m.registered x ≡ Some true → has m.marked x ≡ true

still_marked : (m : Marks) (n : Name) → AreMarked m → AreMarked (mark m n)
unfolding placed
still_marked m n there x counted = grind (arith, there x, has_append)

mark_as_root : (m : Marks) (n : Name) → AreMarked m → untold (mark m n) ≡ root (untold m) n
unfolding placed
mark_as_root m n there = grind (arith, there n)

pub marks_as_roots : (m : Marks) (ns : List Name) → AreMarked m → untold (marks m ns) ≡ roots (untold m) ns
marks_as_roots m [] there = refl
marks_as_roots m (n ∷ ns) there =
    marks_as_roots (mark m n) ns (still_marked m n there) ∙ ap (λ p. roots p ns) (mark_as_root m n there)
