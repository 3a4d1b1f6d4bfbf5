-- A trace goes on with each visit, and at its end the marked names are the reached ones.
use Rattle.std.proofs.Common.{ℕ, ◌≡◌, ◌+◌, ◌-◌, ◌^◌, ◌≤◌, min, take, Bool, true, false, ◌&&◌, ◌||◌, List, [], ◌∷◌, ◌++◌, length, Option, Some, None, sym, ◌∙◌, ap, subst, inl, inr, arith}
use Rattle.std.specs.List.{sum_by, slice_get}
use Rattle.std.specs.Option.{option_or}
use Rattle.std.specs.FinMap.{FinMap, get, empty, get-empty}
use Rattle.std.proofs.lemmas.List.{take_all, take_more}
use Rattle.std.proofs.lemmas.List.Sums.{sum_by-append}
use Rattle.std.proofs.lemmas.Map.Keys.{any_passes_from_place}
use Rattle.std.proofs.lemmas.Option.{slice_get_within, get_or_from_slice_get}
use Rattle.std.proofs.lemmas.Bool.{cases_Bool, or_left}
use Rattle.intern_store.specs.declared.names.Name.{Name}
use Rattle.intern_store.specs.Named.{same_name}
use Rattle.intern_marks.specs.Names.{has, name_cmp}
use Rattle.intern_marks.specs.Marks.{Marks, fresh, visited, may_be, mark, marks, untold, root, roots, begun}
use Rattle.intern_marks.specs.Reach.{Entry, is_entry, children_in, starts, starts_with, IsPath, Reached, IsReachedSet, calls_of}
use Rattle.intern_marks.specs.Learning.{Learns}
use Rattle.intern_marks.specs.Trace.{counted_in, IsTrace}
use Rattle.intern_marks.proofs.Names.{has_cases, same_as_itself}
use Rattle.intern_marks.proofs.Sound.{nothing_sound}
use Rattle.intern_marks.proofs.Steps.{mark_places, root_places, each-registered, each-visits, each-has, each-once, each-front, marks-calls, roots-calls, marks_as_roots}

module _ (begins : Name → Bool) (family : List Entry) (m : Marks) (t : IsTrace begins family m) where
  module _ (done : length m.marked ≤ m.visits) where
    -- the end of a path is marked
    at_end : (before : List Name) (x : Name) → IsPath begins family before x → has m.marked x ≡ true
    at_end [] x path = t.begun x path
    at_end (parent ∷ before) x path =
        t.closed parent x (ap (λ l. has l parent) (take_all m.visits m.marked done) ∙ at_end before parent path.2) path.1 path.0

    pub reached_at_end : IsReachedSet begins family m.marked
    reached_at_end = record { once = t.once; reached = λ x. (t.reached x, (λ r. at_end r.0 x r.1)) }

  -- a visit of the first pending name
  module _ (counted : (x : Name) → starts family x ≡ true → begins x ≡ true)
      (n : Name) (waits : slice_get m.marked m.visits ≡ Some n) where
    abbrev kids : List Name
    kids = children_in family n

    abbrev next : Marks
    next = marks (begun m) kids

    within : m.visits + 1 ≤ length m.marked
    within = let past = slice_get_within m.marked m.visits n waits in omega arith

    front : (m.visits + 1 ≤ length next.marked) × (take (m.visits + 1) next.marked ≡ take (m.visits + 1) m.marked)
    front = each-front false mark mark_places (begun m) kids (m.visits + 1) within

    one-visited : visited next ≡ visited m ++ n ∷ []
    one-visited =
        ap (λ k. take k next.marked) (each-visits false mark mark_places (begun m) kids) ∙ front.1
        ∙ take_more m.marked m.visits n (omega (arith, within))
        ∙ ap (λ x. visited m ++ x ∷ []) (get_or_from_slice_get m.marked m.visits n n waits)

    marked_n : has m.marked n ≡ true
    marked_n = any_passes_from_place (same_name n) m.marked m.visits n waits (same_as_itself n)

    next_has : (x : Name) → has next.marked x ≡ (has m.marked x || (has kids x && may_be false (counted_in family x)))
    next_has x = each-has false mark mark_places (begun m) kids x ∙ ap (λ o. has m.marked x || (has kids x && may_be false o)) (t.known x)

    still : (x : Name) → has m.marked x ≡ true → has next.marked x ≡ true
    still x h = next_has x ∙ or_left _ _ h

    next_reached : (x : Name) → has next.marked x ≡ true → Reached begins family x
    next_reached x h = elim (cases_Bool (has m.marked x)) [
      | inl old ↦ t.reached x old
      | inr new ↦
          let both : (is_entry family x ≡ true) × (has kids x ≡ true) = grind (arith, next_has x, h, new) in
          let up = t.reached n marked_n in
          (n ∷ up.0, (both.0, both.1, up.1))
    ]

    -- a child of n that is an entry is marked afterwards
    next_marks : (x : Name) → has kids x ≡ true → is_entry family x ≡ true → has next.marked x ≡ true
    next_marks x h there = grind (arith, next_has x, t.begun x, counted x)

    next_closed : (parent x : Name) → has (visited next) parent ≡ true → has (children_in family parent) x ≡ true → is_entry family x ≡ true → has next.marked x ≡ true
    next_closed parent x h child there = elim (has_cases (visited m) n parent (ap (λ l. has l parent) (sym one-visited) ∙ h)) [
      | inl old ↦ still x (t.closed parent x old child there)
      | inr new ↦ next_marks x (subst (λ p. has (children_in family p) x ≡ true) new child) there
    ]

    next-calls : next.calls ≡ calls_of family (visited next)
    next-calls =
        let f : Name → ℕ = λ m. length (children_in family m) in
        let told : m.calls ≡ min (sum_by f (visited m)) (2 ^ 64 - 1) = t.calls in
        let grown : sum_by f (visited next) ≡ sum_by f (visited m) + (0 + f n) = ap (sum_by f) one-visited ∙ sum_by-append f (visited m) (n ∷ []) in
        omega (arith, marks-calls (begun m) kids (omega arith))

    pub visit_keeps : IsTrace begins family next
    visit_keeps = record {
      known = λ x. ap (λ (r : FinMap name_cmp Bool). get r x) (each-registered false mark mark_places (begun m) kids) ∙ t.known x;
      reached = next_reached;
      begun = λ x h. still x (t.begun x h);
      closed = next_closed;
      once = each-once false mark mark_places (begun m) kids t.once;
      within = rw (each-visits false mark mark_places (begun m) kids) front.0;
      calls = next-calls;
    }

pub or_nothing : {X : Type 0} (o p : Option X) → p ≡ None → option_or o p ≡ o
or_nothing o p none = grind arith

-- once the listed entries are placed beside the counted ones, a trace has begun
module _ (family : List Entry) (listed : List Name) (m : Marks) (is : Learns true family (fresh empty) m) where
  known : (x : Name) → get m.registered x ≡ counted_in family x
  known x = is.registered x ∙ or_nothing (counted_in family x) (get (fresh empty).registered x) (get-empty name_cmp x)

  first : (x : Name) → has (roots m listed).marked x ≡ starts_with listed family x
  first x = grind (arith, each-has true root root_places m listed x, is.marked x, known x)

  none : visited (roots m listed) ≡ []
  none = ap (λ k. take k (roots m listed).marked) (each-visits true root root_places m listed ∙ is.visits)

  pub trace_begins : IsTrace (starts_with listed family) family (roots m listed)
  trace_begins = record {
    known = λ x. ap (λ (r : FinMap name_cmp Bool). get r x) (each-registered true root root_places m listed) ∙ known x;
    reached = λ x h. ([], sym (first x) ∙ h);
    begun = λ x h. first x ∙ h;
    closed = λ parent x h. let no = ap (λ l. has l parent) (sym none) ∙ h in cc;
    once = each-once true root root_places m listed (is.sound nothing_sound).once;
    within = let start = each-visits true root root_places m listed ∙ is.visits in omega arith;
    calls = roots-calls m listed ∙ is.calls ∙ ap (calls_of family) (sym none);
  }

  counted_marked : (x : Name) → get m.registered x ≡ Some true → has m.marked x ≡ true
  counted_marked x counted = grind (arith, is.marked x, known x, counted)

  -- so does it where they are marked by mark calls that are forgotten
  pub calls_begin : IsTrace (starts_with listed family) family (untold (marks m listed))
  calls_begin =
      let begun : untold (marks m listed) ≡ roots m listed =
      marks_as_roots m listed counted_marked ∙ ap (λ calls. roots (record m { calls = calls }) listed) (sym is.calls) in
      subst (IsTrace (starts_with listed family) family) (sym begun) trace_begins

-- a list of roots without entries begins no path
pub starts_with_none : (family : List Entry) (listed : List Name) → ((x : Name) → has listed x ≡ true → is_entry family x ≡ false) → starts_with listed family ≡ starts family
starts_with_none family listed out = λ i x. same x i
  where
    same : (x : Name) → starts_with listed family x ≡ starts family x
    same x = grind (arith, out x)

-- a collection with listed roots begins at the counted entries too
pub counted_begin : (family : List Entry) (listed : List Name) (x : Name) → starts family x ≡ true → starts_with listed family x ≡ true
counted_begin family listed x h = or_left (starts family x) (is_entry family x && has listed x) h
