-- The slices of entries, moved down one by one in the order of births.
use Rattle.std.proofs.Common.{◌≡◌, inl, inr, ℕ, zero, suc, ◌+◌, ◌-◌, ◌<◌, ◌≤◌, Bool, true, false, cond, List, [], ◌∷◌, ◌++◌, length, take, drop, Option, Some, None, IsSome, is_some, Result, Ok, Err, refl, sym, ap, subst, ◌∙◌, arith, append_assoc, length-append, length-drop}
use Rattle.std.specs.Prelude.{T}
use Rattle.std.specs.List.{slice_get, copy_within}
use Rattle.std.specs.Option.{option_map}
use Rattle.std.specs.Ordering.{nat_cmp, eq_by_cmp}
use Rattle.std.specs.Cmp.{nat_cmp_total}
use Rattle.std.specs.FinMap.{FinMap, get, insert, entries, entries_sorted, entries-insert, get-entries, len, len-entries, find, put, is_sorted}
use Rattle.std.proofs.Math.Seq.{take_at, drop_at, paste}
use Rattle.std.proofs.lemmas.Bool.{cases_lt}
use Rattle.std.proofs.lemmas.List.{append-nil, length-take, drop-drop}
use Rattle.std.proofs.lemmas.Option.{same_Some, slice_get_cases}
use Rattle.intern_store.proofs.Sorted.{parts, at_head, behind_head, put_at_head, put_behind, found, above_all, later}
use Rattle.intern_store.specs.declared.names.Spot.{Spot}
use Rattle.intern_index.specs.IndexEntry.{with_payload, spot_of, spot_at, spot_before}
use Rattle.intern_table.specs.Joined.{Row, far, far_in, items_in, end_of, read_entry, IsLaid, IsCovered}

read_either : {X Y : Type 0} (f g : X → Y) (t : Bool) (x y : X) (o p : Option X) → f x ≡ g y → option_map f o ≡ option_map g p → option_map f (cond t (Some x) o) ≡ option_map g (cond t (Some y) p)
read_either f g true x y o p same rest = ap Some same
read_either f g false x y o p same rest = rest

some_too : {X Y Z : Type 0} (f : X → Z) (g : Y → Z) (o : Option X) (p : Option Y) → option_map f o ≡ option_map g p → IsSome p → (x : X) × (o ≡ Some x)
some_too f g (Some x) p same some = (x, refl)
some_too f g None None same some = absurd (cc)
some_too f g None (Some y) same some = absurd (cc)

abbrev pub Rows : Type 0 → Type 0 → Type 0
Rows H A = List (ℕ × Row H A)

-- an entry reads the same once what it has in the vector lies from here on
moved_items : {S : Type 0} (own : Result (List S) ℕ) (start : ℕ) (xs before rest : List S) (lo : ℕ) → length before ≡ lo → length (take (far_in own) (drop start xs)) ≡ far_in own
    → items_in own lo (before ++ (take (far_in own) (drop start xs) ++ rest)) ≡ items_in own start xs
moved_items (Ok own) start xs before rest lo begins long = refl
moved_items (Err n) start xs before rest lo begins long =
    let first = take n (drop start xs) in
    ap (take n) (drop_at before (first ++ rest) lo begins) ∙ take_at first rest n long

-- what is behind the items that were written is as it was
module _ {S : Type 0} (xs ys first : List S) (end : ℕ) (is : ys ≡ first ++ drop end xs) (long : length first ≡ end) where
  behind : (k : ℕ) → end ≤ k → drop k ys ≡ drop k xs
  behind k after =
      let split : k ≡ end + (k - end) = omega arith in
      ap (λ j. drop j ys) split ∙ sym (drop-drop (k - end) end ys)
      ∙ ap (drop (k - end)) (ap (drop end) is ∙ drop_at first (drop end xs) end long)
      ∙ drop-drop (k - end) end xs ∙ sym (ap (λ j. drop j xs) split)

  copied : (start n : ℕ) → end ≤ start → paste ys end (drop start ys) n ≡ (first ++ take n (drop start xs)) ++ drop (end + n) xs
  copied start n down =
      ap (λ zs. (zs ++ take n (drop start ys)) ++ drop (end + n) ys) (ap (take end) is ∙ take_at first (drop end xs) end long)
      ∙ ap (λ zs. (first ++ take n zs) ++ drop (end + n) ys) (behind start down)
      ∙ ap (λ zs. (first ++ take n (drop start xs)) ++ zs) (behind (end + n) (omega arith))

module _ {H S A : Type 0} (near : A → Result (List S) ℕ) where
  abbrev pub started : Row H A → ℕ → Row H A
  started r n = record r { payload = record r.payload { start = n } }

  -- where the first n slices end, once each starts where the one before ends
  abbrev pub end_at : ℕ → ℕ → Rows H A → ℕ
  end_at zero lo es = lo
  end_at (suc n) lo [] = lo
  end_at (suc n) lo (e ∷ es) = end_at n (lo + far near e.1) es

  -- and the rows then
  abbrev pub moved : ℕ → ℕ → Rows H A → Rows H A
  moved zero lo es = es
  moved (suc n) lo [] = []
  moved (suc n) lo (e ∷ es) = (e.0, started e.1 lo) ∷ moved n (lo + far near e.1) es

  nth_moved : (n lo : ℕ) (es : Rows H A) → slice_get (moved n lo es) n ≡ slice_get es n
  nth_moved zero lo es = refl
  nth_moved (suc n) lo [] = refl
  nth_moved (suc n) lo (e ∷ es) = nth_moved n (lo + far near e.1) es

  -- a row stays where it is
  moved_spots : (n lo k : ℕ) (es : Rows H A) → option_map spot_of (slice_get (moved n lo es) k) ≡ option_map spot_of (slice_get es k)
  moved_spots zero lo k es = refl
  moved_spots (suc n) lo k [] = refl
  moved_spots (suc n) lo zero (e ∷ es) = refl
  moved_spots (suc n) lo (suc k) (e ∷ es) = moved_spots n (lo + far near e.1) k es

  moved_length : (n lo : ℕ) (es : Rows H A) → length (moved n lo es) ≡ length es
  moved_length zero lo es = refl
  moved_length (suc n) lo [] = refl
  moved_length (suc n) lo (e ∷ es) = ap suc (moved_length n (lo + far near e.1) es)

  -- the slices lie in this order from lo on, each so behind the one before, and the last so before n
  abbrev pub Chain : (ℕ → ℕ → Type 0) → ℕ → Rows H A → ℕ → Type 0
  Chain R lo [] n = R lo n
  Chain R lo (e ∷ es) n = R lo e.1.payload.start × Chain R (end_of near e.1) es n

  abbrev Lies : ℕ → Rows H A → ℕ → Type 0
  Lies = Chain (λ x y. x ≤ y)

  chained : (n lo : ℕ) (es : Rows H A) → T (is_sorted nat_cmp es) → lo ≤ n → ((b : ℕ) (r : Row H A) → find nat_cmp b es ≡ Some r → (lo ≤ r.payload.start) × (end_of near r ≤ n))
      → ((b c : ℕ) (r s : Row H A) → b < c → find nat_cmp b es ≡ Some r → find nat_cmp c es ≡ Some s → end_of near r ≤ s.payload.start) → Lies lo es n
  chained n lo [] sorted fits within apart = fits
  chained n lo (e ∷ es) sorted fits within apart =
      let rest = parts _ _ sorted in
      let first = at_head e es in (
        (within e.0 e.1 first).0,
        chained n (end_of near e.1) es rest.1 (within e.0 e.1 first).1
            (λ b r is. (apart e.0 b e.1 r (above_all e.0 b r es rest.0 is) first (later b r e es rest.0 is), (within b r (later b r e es rest.0 is)).1))
            (λ b c r s below is its. apart b c r s below (later b r e es rest.0 is) (later c s e es rest.0 its)),
      )

  lies_within : (lo n : ℕ) (es : Rows H A) → Lies lo es n → lo ≤ n
  lies_within lo n [] lies = lies
  lies_within lo n (e ∷ es) lies = let rest = lies_within (end_of near e.1) n es lies.1 in omega (arith, lies.0)

  found_lies : (b lo n : ℕ) (r : Row H A) (es : Rows H A) → Lies lo es n → find nat_cmp b es ≡ Some r → (lo ≤ r.payload.start) × (end_of near r ≤ n)
  found_lies b lo n r [] lies is = absurd (cc)
  found_lies b lo n r (e ∷ es) lies is =
      elim (found b r e es is) [
        | inl first ↦ subst (λ (x : Row H A). (lo ≤ x.payload.start) × (end_of near x ≤ n)) first.1 (lies.0, lies_within (end_of near e.1) n es lies.1)
        | inr behind ↦ let rest = found_lies b (end_of near e.1) n r es lies.1 behind in (omega (arith, lies.0, rest.0), rest.1)
      ]

  lies_apart : (b c lo n : ℕ) (r s : Row H A) (es : Rows H A) → T (is_sorted nat_cmp es) → Lies lo es n → b < c → find nat_cmp b es ≡ Some r → find nat_cmp c es ≡ Some s → end_of near r ≤ s.payload.start
  lies_apart b c lo n r s [] sorted lies below is its = absurd (cc)
  lies_apart b c lo n r s (e ∷ es) sorted lies below is its =
      let rest = parts _ _ sorted in
      elim (found c s e es its) [
        | inl first ↦
            elim (found b r e es is) [
              | inl same ↦ absurd (omega (arith, first.0, same.0))
              | inr behind ↦ let above = above_all e.0 b r es rest.0 behind in absurd (omega (arith, first.0))
            ]
        | inr after ↦
            elim (found b r e es is) [
              | inl same ↦ subst (λ (x : Row H A). end_of near x ≤ s.payload.start) same.1 (found_lies c (end_of near e.1) n s es lies.1 after).0
              | inr behind ↦ lies_apart b c (end_of near e.1) n r s es rest.1 lies.1 below behind after
            ]
      ]

  -- slices that are moved lie without gaps
  moved_chain : (R : ℕ → ℕ → Type 0) → ((x : ℕ) → R x x) → (lo : ℕ) (es : Rows H A) → Chain R lo (moved (length es) lo es) (end_at (length es) lo es)
  moved_chain R same lo [] = same lo
  moved_chain R same lo (e ∷ es) = (same lo, moved_chain R same (lo + far near e.1) es)

  covered : (lo n k : ℕ) (es : Rows H A) → T (is_sorted nat_cmp es) → Chain (λ x y. x ≡ y) lo es n → lo ≤ k → k < n → (b : ℕ) × (r : Row H A) × (find nat_cmp b es ≡ Some r) × (r.payload.start ≤ k) × (k < end_of near r)
  covered lo n k [] sorted chain from below = absurd (omega (arith, chain))
  covered lo n k (e ∷ es) sorted chain from below =
      elim (cases_lt k (end_of near e.1)) [
        | inl inside ↦ (e.0, e.1, at_head e es, omega (arith, chain.0), inside)
        | inr outside ↦
            let rest = parts _ _ sorted in
            let w = covered (end_of near e.1) n k es rest.1 chain.1 (omega arith) below in
            (w.0, w.1, later w.0 w.1 e es rest.0 w.2, w.3, w.4)
      ]

  -- what a row has in the vector
  abbrev slice : List S → Row H A → List S
  slice xs r = take (far near r) (drop r.payload.start xs)

  -- the items of the first n slices
  abbrev pub gathered : List S → ℕ → Rows H A → List S
  gathered xs zero es = []
  gathered xs (suc n) [] = []
  gathered xs (suc n) (e ∷ es) = slice xs e.1 ++ gathered xs n es

  slice_length : (xs : List S) (r : Row H A) → end_of near r ≤ length xs → length (slice xs r) ≡ far near r
  slice_length xs r fits = let long = length-drop r.payload.start xs in rw (length-take (far near r) (drop r.payload.start xs)) (omega arith)

  gathered_length : (xs : List S) (n lo hi : ℕ) (es : Rows H A) → Lies hi es (length xs) → lo + length (gathered xs n es) ≡ end_at n lo es
  gathered_length xs zero lo hi es lies = omega arith
  gathered_length xs (suc n) lo hi [] lies = omega arith
  gathered_length xs (suc n) lo hi (e ∷ es) lies =
      let long = slice_length xs e.1 (lies_within (end_of near e.1) (length xs) es lies.1) in
      let rest = gathered_length xs n (lo + far near e.1) (end_of near e.1) es lies.1 in
      omega (arith, long, rest, length-append (slice xs e.1) (gathered xs n es))

  -- the row of number n, and its move
  record IsNext (xs : List S) (n lo : ℕ) (e : ℕ × Row H A) (es : Rows H A) : Type 0 where
    was : find nat_cmp e.0 es ≡ Some e.1
    here : find nat_cmp e.0 (moved n lo es) ≡ Some e.1
    set : put nat_cmp e.0 (started e.1 (end_at n lo es)) (moved n lo es) ≡ moved (suc n) lo es
    more : gathered xs (suc n) es ≡ gathered xs n es ++ slice xs e.1
    ends : end_at (suc n) lo es ≡ end_at n lo es + far near e.1
    down : end_at n lo es ≤ e.1.payload.start
    fits : end_of near e.1 ≤ length xs

  next_at : (xs : List S) (n lo hi : ℕ) (e : ℕ × Row H A) (es : Rows H A) → T (is_sorted nat_cmp es) → Lies hi es (length xs) → lo ≤ hi → slice_get es n ≡ Some e → IsNext xs n lo e es
  next_at xs n lo hi e [] sorted lies low at = absurd (cc)
  next_at xs zero lo hi e (f ∷ es) sorted lies low at =
      subst (λ (x : ℕ × Row H A). IsNext xs 0 lo x (f ∷ es)) (same_Some f e at) (record {
        was = at_head f es;
        here = at_head f es;
        set = put_at_head f (started f.1 lo) es;
        more = append-nil (slice xs f.1);
        ends = refl;
        down = omega (arith, lies.0);
        fits = lies_within (end_of near f.1) (length xs) es lies.1;
      })
  next_at xs (suc n) lo hi e (f ∷ es) sorted lies low at =
      let rest = parts _ _ sorted in
      let w = next_at xs n (lo + far near f.1) (end_of near f.1) e es rest.1 lies.1 (omega (arith, lies.0)) at in
      let above = above_all f.0 e.0 e.1 es rest.0 w.was in
      record {
        was = behind_head e.0 f es above ∙ w.was;
        here = behind_head e.0 (f.0, started f.1 lo) _ above ∙ w.here;
        set = put_behind e.0 _ (f.0, started f.1 lo) _ above ∙ ap (λ gs. (f.0, started f.1 lo) ∷ gs) w.set;
        more = ap (λ ys. slice xs f.1 ++ ys) w.more ∙ sym (append_assoc (slice xs f.1) (gathered xs n es) (slice xs e.1));
        ends = w.ends;
        down = w.down;
        fits = w.fits;
      }

  -- all rows read their slices as before
  read_moved : (xs before : List S) (lo hi : ℕ) (es : Rows H A) → length before ≡ lo → Lies hi es (length xs) → (b : ℕ)
      → option_map (read_entry near (before ++ gathered xs (length es) es)) (find nat_cmp b (moved (length es) lo es)) ≡ option_map (read_entry near xs) (find nat_cmp b es)
  read_moved xs before lo hi [] begins lies b = refl
  read_moved xs before lo hi (e ∷ es) begins lies b =
      let n = far near e.1 in
      let first = slice xs e.1 in
      let rest = gathered xs (length es) es in
      let long = slice_length xs e.1 (lies_within (end_of near e.1) (length xs) es lies.1) in
      read_either (read_entry near (before ++ (first ++ rest))) (read_entry near xs) (eq_by_cmp nat_cmp b e.0) (started e.1 lo) e.1 (find nat_cmp b (moved (length es) (lo + n) es)) (find nat_cmp b es)
      (ap (λ zs. (e.1.place, record { value = record { header = e.1.value.header; items = zs }; count = e.1.payload.count })) (moved_items (near e.1.value.near) e.1.payload.start xs before rest lo begins long))
      (ap (λ ys. option_map (read_entry near ys) (find nat_cmp b (moved (length es) (lo + n) es))) (sym (append_assoc before first rest))
      ∙ read_moved xs (before ++ first) (lo + n) (end_of near e.1) es (omega (arith, length-append before first, begins, long)) lies.1 b)

  -- what the loop keeps: the first n slices lie one behind the other, and what is behind them is as
  -- it was
  pub record IsMoved (m : FinMap nat_cmp (Row H A)) (xs : List S) (now : FinMap nat_cmp (Row H A)) (ys : List S) (n end : ℕ) : Type 0 where
    pub rows : entries now ≡ moved n 0 (entries m)
    pub items : ys ≡ gathered xs n (entries m) ++ drop end xs
    pub ends : end ≡ end_at n 0 (entries m)

  module _ (m : FinMap nat_cmp (Row H A)) (xs : List S) (now : FinMap nat_cmp (Row H A)) (ys : List S) (n end : ℕ) (laid : IsLaid near m (length xs)) (is : IsMoved m xs now ys n end) where
    lies : Lies 0 (entries m) (length xs)
    lies =
        chained (length xs) 0 (entries m) (entries_sorted m) (omega arith)
        (λ b r at. (omega arith, laid.within b r (get-entries m b ∙ at)))
        (λ b c r s below at its. laid.apart b c r s below (get-entries m b ∙ at) (get-entries m c ∙ its))

    long : length (gathered xs n (entries m)) ≡ end
    long = omega (arith, gathered_length xs n 0 0 (entries m) lies, is.ends)

    nth : slice_get (entries now) n ≡ slice_get (entries m) n
    nth = ap (λ es. slice_get es n) is.rows ∙ nth_moved n 0 (entries m)

    -- the rows are as many as before, and each of them stays where it is
    pub as_many : len now ≡ len m
    as_many = len-entries now ∙ ap length is.rows ∙ moved_length n 0 (entries m) ∙ sym (len-entries m)

    pub same_spot : spot_at now n ≡ spot_at m n
    same_spot = ap (option_map spot_of) nth

    pub same_before : (k : ℕ) → spot_before now k ≡ spot_before m k
    same_before zero = refl
    same_before (suc k) = ap (λ es. option_map spot_of (slice_get es k)) is.rows ∙ moved_spots n 0 k (entries m)

    -- the next row is there
    pub is_left : n < len m → {X : Type 0} (f : X → Spot) (o : Option X) → option_map f o ≡ spot_at now n → (x : X) × (o ≡ Some x)
    is_left inside f o same =
        elim (slice_get_cases (entries m) n).1 [
          | inl w ↦ some_too f spot_of o (slice_get (entries now) n) same (ap is_some (nth ∙ w.2))
          | inr past ↦ absurd (omega (arith, past.0, inside, len-entries m))
        ]

    -- what a row has in the vector fits, and is moved
    abbrev Moves : ℕ → Row H A → Option (Row H A) → Type 0
    Moves b x o = (end ≤ x.payload.start) × (end_of near x ≤ length ys) × IsMoved m xs (with_payload (λ q. record q { start = end }) now b o) (copy_within ys x.payload.start (end_of near x) end) (n + 1) (end + far near x)

    -- that of the next is
    pub next : (s : Spot) (x : Row H A) → Some s ≡ spot_at now n → get now s.birth ≡ Some x → Moves s.birth x (get now s.birth)
    next s x its_spot had = go (slice_get (entries m) n) refl
      where
        go : (o : Option (ℕ × Row H A)) → slice_get (entries m) n ≡ o → Moves s.birth x (get now s.birth)
        go None at = let none = its_spot ∙ ap (option_map spot_of) (nth ∙ at) in absurd (cc)
        go (Some e) at =
            let w = next_at xs n 0 0 e (entries m) (entries_sorted m) lies (omega arith) at in
            let start = e.1.payload.start in
            let k = far near e.1 in
            let down : end ≤ start = omega (arith, w.down, is.ends) in
            let exact : start + k - start ≡ k = omega arith in
            let more : suc n ≡ n + 1 = omega arith in
            let b_is : s.birth ≡ e.0 = ap (λ (t : Spot). t.birth) (same_Some _ _ (its_spot ∙ ap (option_map spot_of) (nth ∙ at))) in
            let row : get now e.0 ≡ Some e.1 = get-entries now e.0 ∙ ap (find nat_cmp e.0) is.rows ∙ w.here in
            let x_is : x ≡ e.1 = same_Some _ _ (sym had ∙ ap (get now) b_is ∙ row) in
            let room : end_of near e.1 ≤ length ys = omega (arith, ap length is.items, length-append (gathered xs n (entries m)) (drop end xs), length-drop end xs, long, w.fits, down) in
            rw (x_is, b_is, row) (
              down,
              room,
              subst (λ i. IsMoved m xs (insert now e.0 (started e.1 end)) (copy_within ys start (start + k) end) i (end + k)) more (record {
                rows = entries-insert nat_cmp_total now e.0 (started e.1 end) ∙ ap (put nat_cmp e.0 (started e.1 end)) is.rows
                    ∙ ap (λ i. put nat_cmp e.0 (started e.1 i) (moved n 0 (entries m))) is.ends ∙ w.set;
                items = ap (paste ys end (drop start ys)) exact ∙ copied xs ys (gathered xs n (entries m)) end is.items long start k down
                    ∙ ap (λ zs. zs ++ drop (end + k) xs) (sym w.more);
                ends = ap (λ i. i + k) is.ends ∙ sym w.ends;
              }),
            )

    -- all are moved, and what is behind them is cut
    module _ (every : n ≡ len m) (zs : List S) (cut : zs ≡ take end ys) where
      all : n ≡ length (entries m)
      all = every ∙ len-entries m

      whole : zs ≡ gathered xs (length (entries m)) (entries m)
      whole = cut ∙ ap (take end) is.items ∙ take_at (gathered xs n (entries m)) (drop end xs) end long ∙ ap (λ k. gathered xs k (entries m)) all

      rows : entries now ≡ moved (length (entries m)) 0 (entries m)
      rows = is.rows ∙ ap (λ k. moved k 0 (entries m)) all

      chain : (R : ℕ → ℕ → Type 0) → ((x : ℕ) → R x x) → Chain R 0 (entries now) (length zs)
      chain R same =
          let size : end_at (length (entries m)) 0 (entries m) ≡ length zs = omega (arith, ap length whole, gathered_length xs (length (entries m)) 0 0 (entries m) lies) in
          subst (λ k. Chain R 0 (entries now) k) size (subst (λ es. Chain R 0 es (end_at (length (entries m)) 0 (entries m))) (sym rows) (moved_chain R same 0 (entries m)))

      lies_now : Lies 0 (entries now) (length zs)
      lies_now = chain (λ x y. x ≤ y) (λ x. omega arith)

      pub laid_now : IsLaid near now (length zs)
      laid_now = record {
        within = λ b r at. (found_lies b 0 (length zs) r (entries now) lies_now (sym (get-entries now b) ∙ at)).1;
        apart = λ b c r s below at its. lies_apart b c 0 (length zs) r s (entries now) (entries_sorted now) lies_now below (sym (get-entries now b) ∙ at) (sym (get-entries now c) ∙ its);
      }

      pub same_now : (b : ℕ) → option_map (read_entry near zs) (get now b) ≡ option_map (read_entry near xs) (get m b)
      same_now b =
          ap (λ ys. option_map (read_entry near ys) (get now b)) whole
          ∙ ap (option_map (read_entry near (gathered xs (length (entries m)) (entries m)))) (get-entries now b ∙ ap (find nat_cmp b) rows)
          ∙ read_moved xs [] 0 0 (entries m) refl lies b ∙ ap (option_map (read_entry near xs)) (sym (get-entries m b))

      pub covered_now : (k : ℕ) → k < length zs → IsCovered near now k
      covered_now k below =
          let w = covered 0 (length zs) k (entries now) (entries_sorted now) (chain (λ x y. x ≡ y) (λ x. refl)) (omega arith) below in
          record { birth = w.0; row = w.1; there = get-entries now w.0 ∙ w.2; from = w.3; below = w.4 }
