-- What an index of slices has with the items of all, and the entries that it is seen as.
use Rattle.std.proofs.Common.{◌≡◌, ◌⊎◌, inl, inr, ℕ, ◌+◌, ◌-◌, ◌<◌, ◌≤◌, Bool, true, false, cond, List, [], ◌∷◌, ◌++◌, length, take, drop, Option, Some, None, IsSome, is_some, Result, Ok, Err, refl, sym, ap, subst, ◌∙◌, arith, append_assoc, length-append, length-drop}
use Rattle.std.proofs.Math.Seq.{take_at, drop_at}
use Rattle.std.proofs.lemmas.List.{append-nil, length-take, take_all, take-append-le, take-append-drop}
use Rattle.std.specs.Option.{option_map}
use Rattle.std.specs.List.{flat_map}
use Rattle.std.specs.Cmp.Lexicographic.{pointwise}
use Rattle.std.specs.Ordering.{nat_cmp}
use Rattle.std.specs.Cmp.{nat_cmp_total}
use Rattle.std.specs.FinMap.{FinMap, empty, get, insert, retain_keys, get-empty, same_map, nat_cmp-IsAntisymmetric}
use Rattle.std.proofs.lemmas.Bool.{cases_eq, cases_lt, and_parts}
use Rattle.std.proofs.lemmas.Option.{same_Some}
use Rattle.intern_store.specs.Kept.{Kept, recounted}
use Rattle.intern_store.proofs.Compared.{get-inserted, get-retained}
use Rattle.intern_index.specs.IndexEntry.{Indexed, IsLed, with_payload}
use Rattle.intern_store.specs.Maps.{map_values}
use Rattle.intern_table.specs.Sliced.{Sliced, sliced_eq, sliced_fits, sliced_input}
use Rattle.intern_table.specs.Read.{shown, shown_row}
use Rattle.intern_table.specs.Joined.{Row, far, far_in, items_in, HasItems, end_of, read_entry, sliced_entry, sliced_hash, IsLaid, IsCovered, IsJoined}
use Rattle.intern_table.specs.declared.layout.SliceRow.{SliceRow}
use Rattle.intern_table.specs.declared.pool.SlicePayload.{SlicePayload}
use Rattle.intern_store.proofs.Chosen.{here, away}
use Rattle.intern_index.proofs.Seen.{alike_led, changed_seen}
use Rattle.intern_store.proofs.Maps.{get-map_values, map_values-insert, map_values-retain, map_values-same, read_seen}

-- equal lists feed a hasher the same
items_fed : {S : Type 0} (s : S → List (List ℕ)) (item_eq : S → S → Bool) → ((x y : S) → item_eq x y ≡ true → s x ≡ s y) → (xs ys : List S) → pointwise item_eq xs ys ≡ true → flat_map s xs ≡ flat_map s ys
items_fed s item_eq items [] [] e = refl
items_fed s item_eq items [] (y ∷ ys) e = absurd (cc)
items_fed s item_eq items (x ∷ xs) [] e = absurd (cc)
items_fed s item_eq items (x ∷ xs) (y ∷ ys) e =
    let parts = and_parts (item_eq x y) (pointwise item_eq xs ys) e in
    ap (λ i. i ++ flat_map s xs) (items x y parts.0) ∙ ap (λ i. s y ++ i) (items_fed s item_eq items xs ys parts.1)

-- what is fed of a header that passes a test, and of equal lists, is the same
pub sliced_input-fits : {H S : Type 0} (fed_first : List (List ℕ)) (h : H → List (List ℕ)) (s : S → List (List ℕ)) (test : H → Bool) (item_eq : S → S → Bool) → ((x : H) → test x ≡ true → fed_first ≡ h x) → ((x y : S) → item_eq x y ≡ true → s x ≡ s y)
    → (xs : List S) (w : Sliced H S) → sliced_fits test item_eq xs w ≡ true → fed_first ++ flat_map s xs ≡ sliced_input h s w
sliced_input-fits first h s test item_eq headers items xs w e =
    let parts = and_parts (test w.header) (pointwise item_eq xs w.items) e in
    ap (λ i. i ++ flat_map s xs) (headers w.header parts.0) ∙ ap (λ i. h w.header ++ i) (items_fed s item_eq items xs w.items parts.1)

-- equal headers and lists feed a hasher the same
pub sliced_input-same : {H S : Type 0} (h : H → List (List ℕ)) (s : S → List (List ℕ)) (eq : H → H → Bool) (item_eq : S → S → Bool) → ((x y : H) → eq x y ≡ true → h x ≡ h y) → ((x y : S) → item_eq x y ≡ true → s x ≡ s y)
    → (v w : Sliced H S) → sliced_eq eq item_eq v w ≡ true → sliced_input h s v ≡ sliced_input h s w
sliced_input-same h s eq item_eq headers items v w e = sliced_input-fits (h v.header) h s (eq v.header) item_eq (headers v.header) items v.items w e

module _ {S : Type 0} where
  -- a part that fits has its length
  part_length : (start n : ℕ) (xs : List S) → start + n ≤ length xs → length (take n (drop start xs)) ≡ n
  part_length start n xs fits = let long : length (drop start xs) ≡ length xs - start = length-drop start xs in rw (length-take n (drop start xs)) (omega arith)

  -- a part of a list is the same part of a longer one
  same_part : (start n : ℕ) (xs ys : List S) → start + n ≤ length xs → take n (drop start (xs ++ ys)) ≡ take n (drop start xs)
  same_part start n xs ys fits =
      let long : length (drop start xs) ≡ length xs - start = length-drop start xs in
      let within : n ≤ length (drop start xs) = omega arith in
      let first : length (take start xs) ≡ start = rw (length-take start xs) (omega arith) in
      ap (λ zs. take n (drop start (zs ++ ys))) (sym (take-append-drop start xs))
      ∙ ap (λ zs. take n (drop start zs)) (append_assoc (take start xs) (drop start xs) ys)
      ∙ ap (take n) (drop_at (take start xs) (drop start xs ++ ys) start first)
      ∙ rw take-append-le refl

  -- and what is appended is its last part
  last_part : (start n : ℕ) (xs ys : List S) → start ≡ length xs → n ≡ length ys → take n (drop start (xs ++ ys)) ≡ ys
  last_part start n xs ys begins long = ap (take n) (drop_at xs ys start (sym begins) ∙ sym (append-nil ys)) ∙ take_at ys [] n (sym long)

  -- what was appended is cut off again
  pub cut_back : (start : ℕ) (xs ys longer shorter : List S) → longer ≡ xs ++ ys → start ≡ length xs → shorter ≡ take start longer → shorter ≡ xs
  cut_back start xs ys longer shorter more begins cut = cut ∙ ap (take start) more ∙ take_at xs ys start (sym begins)

  -- more items behind those in the vector change nothing that an entry reads
  same_items : (own : Result (List S) ℕ) (start : ℕ) (xs ys : List S) → start + far_in own ≤ length xs → items_in own start (xs ++ ys) ≡ items_in own start xs
  same_items (Ok own) start xs ys fits = refl
  same_items (Err n) start xs ys fits = same_part start n xs ys fits

  -- an entry reads what was put behind all items, or what it has itself
  pub added_items : (own : Result (List S) ℕ) (start : ℕ) (xs before items : List S) → HasItems own xs → start ≡ length before → items ≡ before ++ take (far_in own) xs → items_in own start items ≡ xs
  added_items (Ok own) start xs before items has begins more = has
  added_items (Err n) start xs before items has begins more = ap (λ zs. take n (drop start zs)) (more ∙ ap (λ zs. before ++ zs) (take_all n xs (omega (arith, has)))) ∙ last_part start n before xs begins has

  -- as many items are put there as are to lie there
  pub added_length : (own : Result (List S) ℕ) (xs : List S) → HasItems own xs → far_in own ≡ length (take (far_in own) xs)
  added_length (Ok own) xs has = refl
  added_length (Err n) xs has = has ∙ sym (ap length (take_all n xs (omega (arith, has))))

-- a payload with another count
abbrev pub recount : (ℕ → ℕ) → SlicePayload → SlicePayload
recount g p = record p { count = g p.count }

module _ {H S A : Type 0} (near : A → Result (List S) ℕ) where
  -- lists that lie where others did lie in order
  laid_by : (m n : FinMap nat_cmp (Row H A)) (k : ℕ) → ((b : ℕ) (r : Row H A) → get n b ≡ Some r → (s : Row H A) × (get m b ≡ Some s) × (r.payload.start ≡ s.payload.start) × (far near r ≡ far near s))
      → IsLaid near m k → IsLaid near n k
  laid_by m n k was is = record {
    within = λ b r at.
        let w = was b r at in
        let starts : r.payload.start ≡ w.0.payload.start = w.2 in
        let long : far near r ≡ far near w.0 = w.3 in
        let fits : end_of near w.0 ≤ k = is.within b w.0 w.1 in
        omega arith;
    apart = λ b c r s below at its.
        let w = was b r at in
        let x = was c s its in
        let starts : r.payload.start ≡ w.0.payload.start = w.2 in
        let long : far near r ≡ far near w.0 = w.3 in
        let next : s.payload.start ≡ x.0.payload.start = x.2 in
        let fits : end_of near w.0 ≤ x.0.payload.start = is.apart b c w.0 x.0 below w.1 x.1 in
        omega arith;
  }

  -- lists that lie where others did have the items that those had
  covered_by : (m n : FinMap nat_cmp (Row H A)) (i : ℕ) → ((b : ℕ) (r : Row H A) → get m b ≡ Some r → (s : Row H A) × (get n b ≡ Some s) × (s.payload.start ≡ r.payload.start) × (far near s ≡ far near r))
      → IsCovered near m i → IsCovered near n i
  covered_by m n i will is =
      let w = will is.birth is.row is.there in
      let starts : w.0.payload.start ≡ is.row.payload.start = w.2 in
      let long : far near w.0 ≡ far near is.row = w.3 in
      record {
        birth = is.birth;
        row = w.0;
        there = w.1;
        from = omega (arith, is.from);
        below = omega (arith, is.below);
      }

  -- fewer lists lie in order
  pub retained_laid : (m n : FinMap nat_cmp (Row H A)) (marked : ℕ → Bool) (k : ℕ) → IsLaid near m k → n ≡ retain_keys m marked → IsLaid near n k
  retained_laid m n marked k is retained = laid_by m n k (λ b r at. go (marked b) (get m b) r (sym (ap (λ x. get x b) retained ∙ get-retained m marked b) ∙ at)) is
    where
      go : (t : Bool) (o : Option (Row H A)) (r : Row H A) → cond t o None ≡ Some r → (s : Row H A) × (o ≡ Some s) × (r.payload.start ≡ s.payload.start) × (far near r ≡ far near s)
      go true o r e = (r, e, refl, refl)
      go false o r e = absurd (cc)

module _ {H S A : Type 0} (near : A → Result (List S) ℕ) where
  -- the count of an entry is that of its payload
  pub count_read : (index : FinMap nat_cmp (Row H A)) (xs : List S) (m : FinMap nat_cmp (Kept (Sliced H S))) → map_values (sliced_entry near xs) index ≡ m
      → (b : ℕ) (n : Option SlicePayload) → n ≡ option_map (λ r. r.payload) (get index b) → option_map (λ n. n.count) n ≡ option_map (λ k. k.count) (get m b)
  count_read index xs m view b n is = ap (option_map (λ n. n.count)) is ∙ go (get index b) ∙ read_seen (sliced_entry near xs) index m view (λ k. k.count) b
    where
      go : (o : Option (Row H A)) → option_map (λ n. n.count) (option_map (λ r. r.payload) o) ≡ option_map (λ r. (sliced_entry near xs r).count) o
      go None = refl
      go (Some r) = refl

  -- a birth without a row shows nothing
  pub unread : (index : FinMap nat_cmp (Row H A)) (xs : List S) (m : FinMap nat_cmp (Kept (Sliced H S))) → map_values (sliced_entry near xs) index ≡ m
      → (b : ℕ) → None ≡ option_map (λ r. r.payload) (get index b) → None ≡ option_map shown (get m b)
  unread index xs m view b none = go (get index b) none ∙ read_seen (sliced_entry near xs) index m view shown b
    where
      go : (o : Option (Row H A)) → None ≡ option_map (λ r. r.payload) o → None ≡ option_map (λ r. shown (sliced_entry near xs r)) o
      go None none = refl
      go (Some r) none = absurd (cc)

  pub still_seen : (index new : FinMap nat_cmp (Row H A)) (items items' : List S) (m : FinMap nat_cmp (Kept (Sliced H S))) → map_values (sliced_entry near items) index ≡ m → new ≡ index → items' ≡ items
      → map_values (sliced_entry near items') new ≡ m
  still_seen index new items items' m view same_index same_items = ap (map_values (sliced_entry near items')) same_index ∙ ap (λ xs. map_values (sliced_entry near xs) index) same_items ∙ view

  -- where nothing has changed
  pub still_joined : (index new : FinMap nat_cmp (Row H A)) (items items' : List S) → IsJoined near index items → new ≡ index → items' ≡ items → IsJoined near new items'
  still_joined index new items items' is same_index same_items = subst (λ m. IsJoined near m items') (sym same_index) (subst (IsJoined near index) (sym same_items) is)

  -- a table of nothing
  pub empty_joined : (index : FinMap nat_cmp (Row H A)) (items : List S) → index ≡ empty → items ≡ [] → IsJoined near index items
  empty_joined index items none nothing =
      let gone : (b : ℕ) → get index b ≡ None = λ b. ap (λ m. get m b) none ∙ get-empty nat_cmp b in
      record {
        laid = record { within = λ b r at. let e = gone b in absurd (cc); apart = λ b c r s below at its. let e = gone b in absurd (cc) };
        full = λ i below. let size : length items ≡ 0 = ap length nothing in absurd (omega (arith, below));
      }

  -- a row of before that reads as one of now
  row_before : (items items' : List S) (o : Option (Row H A)) (y : Row H A) → Some (read_entry near items' y) ≡ option_map (read_entry near items) o → (x : Row H A) × (o ≡ Some x) × (read_entry near items' y ≡ read_entry near items x)
  row_before items items' None y e = absurd (cc)
  row_before items items' (Some x) y e = (x, refl, same_Some _ _ e)

  module _ (hash : Sliced H S → ℕ) where
    -- more items behind them, or fewer, change no hash of rows that lie among these
    module _ (i : Indexed (SliceRow H A) SlicePayload) (items more items' : List S) (laid : IsLaid near i.entries (length items)) (longer : items' ≡ items ++ more) where
      same_hash : (b : ℕ) (r : Row H A) → get i.entries b ≡ Some r → sliced_hash near hash items' r.value r.payload ≡ sliced_hash near hash items r.value r.payload
      same_hash b r at =
          ap (λ xs. sliced_hash near hash xs r.value r.payload) longer
          ∙ ap (λ xs. hash (record { header = r.value.header; items = xs })) (same_items (near r.value.near) r.payload.start items more (laid.within b r at))

      pub longer_led : IsLed (sliced_hash near hash items) i → IsLed (sliced_hash near hash items') i
      longer_led is = alike_led (sliced_hash near hash items) (sliced_hash near hash items') i i refl (λ b r at. (r, at, refl, sym (same_hash b r at))) is

      pub shorter_led : (n : Indexed (SliceRow H A) SlicePayload) (shorter : List S) → n.entries ≡ i.entries → shorter ≡ items → IsLed (sliced_hash near hash items') n → IsLed (sliced_hash near hash shorter) n
      shorter_led n shorter same cut is =
          subst (λ xs. IsLed (sliced_hash near hash xs) n) (sym cut)
          (alike_led (sliced_hash near hash items') (sliced_hash near hash items) n n refl (λ b r at. (r, at, refl, same_hash b r (sym (ap (λ m. get m b) same) ∙ at))) is)

    -- nor does a move of the items that each row reads
    pub moved_led : (i n : Indexed (SliceRow H A) SlicePayload) (items items' : List S) → n.buckets ≡ i.buckets → ((b : ℕ) → option_map (read_entry near items') (get n.entries b) ≡ option_map (read_entry near items) (get i.entries b))
        → IsLed (sliced_hash near hash items) i → IsLed (sliced_hash near hash items') n
    moved_led i n items items' same reads is =
        alike_led (sliced_hash near hash items) (sliced_hash near hash items') i n same (λ b y at.
        let w = row_before items items' (get i.entries b) y (sym (ap (option_map (read_entry near items')) at) ∙ reads b) in
        (w.0, w.1, ap (λ p. p.0) (sym w.2), ap (λ p. hash p.1.value) (sym w.2))) is

  -- what is read of a row
  pub reads : (index : FinMap nat_cmp (Row H A)) (items : List S) (b : ℕ) (v : SliceRow H A) (n : SlicePayload) → Some v ≡ option_map (λ r. r.value) (get index b) → Some n ≡ option_map (λ r. r.payload) (get index b)
      → Some (shown_row near items v n) ≡ option_map (λ r. shown (sliced_entry near items r)) (get index b)
  reads index items b v n value payload = go (get index b) value payload
    where
      go : (o : Option (Row H A)) → Some v ≡ option_map (λ r. r.value) o → Some n ≡ option_map (λ r. r.payload) o
          → Some (shown_row near items v n) ≡ option_map (λ r. shown (sliced_entry near items r)) o
      go None value payload = absurd (cc)
      go (Some r) value payload =
          ap (λ w. Some (shown_row near items w n)) (same_Some _ _ value) ∙ ap (λ x. Some (shown_row near items r.value x)) (same_Some _ _ payload)

  module _ (index : FinMap nat_cmp (Row H A)) (items : List S) (is : IsJoined near index items) where
    -- a count is changed
    module _ (g : ℕ → ℕ) (m : FinMap nat_cmp (Kept (Sliced H S))) (view : map_values (sliced_entry near items) index ≡ m) (b : ℕ)
        (index' : FinMap nat_cmp (Row H A)) (changed : index' ≡ with_payload (recount g) index b (get index b))
      where
        was : (q : ℕ) (y : Row H A) → get index' q ≡ Some y → (x : Row H A) × (get index q ≡ Some x) × (y.payload.start ≡ x.payload.start) × (far near y ≡ far near x)
        was q y at = go (get index b) refl changed
          where
            go : (o : Option (Row H A)) → get index b ≡ o → index' ≡ with_payload (recount g) index b o
                → (x : Row H A) × (get index q ≡ Some x) × (y.payload.start ≡ x.payload.start) × (far near y ≡ far near x)
            go None had changed = (y, sym (ap (λ n. get n q) changed) ∙ at, refl, refl)
            go (Some r) had changed =
                let new : Row H A = record r { payload = recount g r.payload } in
                let now = ap (λ n. get n q) changed ∙ get-inserted index b new q in
                elim (cases_eq q b) [
                  | inl e ↦
                      let same : new ≡ y = same_Some _ _ (sym (now ∙ here q b _ _ e) ∙ at) in
                      (r, ap (get index) e ∙ had, ap (λ x. x.payload.start) (sym same), ap (far near) (sym same))
                  | inr differs ↦ (y, sym (now ∙ away q b _ _ differs) ∙ at, refl, refl)
                ]

        will : (q : ℕ) (x : Row H A) → get index q ≡ Some x → (y : Row H A) × (get index' q ≡ Some y) × (y.payload.start ≡ x.payload.start) × (far near y ≡ far near x)
        will q x at = go (get index b) refl changed
          where
            go : (o : Option (Row H A)) → get index b ≡ o → index' ≡ with_payload (recount g) index b o
                → (y : Row H A) × (get index' q ≡ Some y) × (y.payload.start ≡ x.payload.start) × (far near y ≡ far near x)
            go None had changed = (x, ap (λ n. get n q) changed ∙ at, refl, refl)
            go (Some r) had changed =
                let new : Row H A = record r { payload = recount g r.payload } in
                let now = ap (λ n. get n q) changed ∙ get-inserted index b new q in
                elim (cases_eq q b) [
                  | inl e ↦
                      let same : r ≡ x = same_Some _ _ (sym (ap (get index) e ∙ had) ∙ at) in
                      (new, now ∙ here q b _ _ e, ap (λ z. z.payload.start) same, ap (far near) same)
                  | inr differs ↦ (x, now ∙ away q b _ _ differs ∙ at, refl, refl)
                ]

        pub changes_joined : IsJoined near index' items
        changes_joined = record {
          laid = laid_by near index index' (length items) was is.laid;
          full = λ i below. covered_by near index index' i will (is.full i below);
        }

        pub changes_seen : map_values (sliced_entry near items) index' ≡ recounted g m b (get m b)
        changes_seen = changed_seen (sliced_entry near items) (recount g) g (λ r. refl) index index' m b view changed

    -- a list is added behind all others
    module _ (b : ℕ) (above : (c : ℕ) → IsSome (get index c) → c < b) (index' : FinMap nat_cmp (Row H A)) (items' : List S) (r : Row H A) (xs : List S)
        (more : items' ≡ items ++ xs) (added : index' ≡ insert index b r)
        (begins : r.payload.start ≡ length items) (long : far near r ≡ length xs)
      where
        -- the entries before it stay
        stays : (c : ℕ) (y : Row H A) → get index c ≡ Some y → sliced_entry near items' y ≡ sliced_entry near items y
        stays c y at =
            ap (λ zs. sliced_entry near zs y) more
            ∙ ap (λ zs. record { value = record { header = y.value.header; items = zs }; count = y.payload.count }) (same_items (near y.value.near) y.payload.start items xs (is.laid.within c y at))

        either : (c : ℕ) (y : Row H A) → get index' c ≡ Some y → ((c ≡ b) × (r ≡ y)) ⊎ ((c < b) × (get index c ≡ Some y))
        either c y at =
            let now = ap (λ n. get n c) added ∙ get-inserted index b r c in
            elim (cases_eq c b) [
              | inl e ↦ inl (e, same_Some _ _ (sym (now ∙ here c b _ _ e) ∙ at))
              | inr differs ↦ let was : get index c ≡ Some y = sym (now ∙ away c b _ _ differs) ∙ at in inr (above c (ap is_some was), was)
            ]

        longer : length items' ≡ length items + length xs
        longer = ap length more ∙ length-append items xs

        adds_laid : IsLaid near index' (length items')
        adds_laid = record {
          within = λ c y at.
              elim (either c y at) [
                | inl new ↦
                    let ends : end_of near r ≡ end_of near y = ap (end_of near) new.1 in
                    let size = longer in
                    omega arith
                | inr old ↦
                    let fits : end_of near y ≤ length items = is.laid.within c y old.1 in
                    let size = longer in
                    omega arith
              ];
          apart = λ c d y z below at its.
              elim (either c y at) [
                | inl new ↦
                    elim (either d z its) [
                      | inl also ↦ let e : c ≡ b = new.0 in let f : d ≡ b = also.0 in absurd (omega arith)
                      | inr old ↦ let e : c ≡ b = new.0 in let f : d < b = old.0 in absurd (omega arith)
                    ]
                | inr old ↦
                    elim (either d z its) [
                      | inl new ↦
                          let fits : end_of near y ≤ length items = is.laid.within c y old.1 in
                          let starts : r.payload.start ≡ z.payload.start = ap (λ x. x.payload.start) new.1 in
                          omega arith
                      | inr also ↦ is.laid.apart c d y z below old.1 also.1
                    ]
              ];
        }

        keeps : (c : ℕ) (y : Row H A) → get index c ≡ Some y → get index' c ≡ Some y
        keeps c y at =
            let now = ap (λ n. get n c) added ∙ get-inserted index b r c in
            let below : c < b = above c (ap is_some at) in
            elim (cases_eq c b) [
              | inl e ↦ let same : c ≡ b = e in absurd (omega arith)
              | inr differs ↦ now ∙ away c b _ _ differs ∙ at
            ]

        adds_full : (i : ℕ) → i < length items' → IsCovered near index' i
        adds_full i below =
            elim (cases_lt i (length items)) [
              | inl old ↦ covered_by near index index' i (λ c y at. (y, keeps c y at, refl, refl)) (is.full i old)
              | inr new ↦
                  let size = longer in
                  record {
                    birth = b;
                    row = r;
                    there = ap (λ n. get n b) added ∙ get-inserted index b r b ∙ here b b _ _ refl;
                    from = omega arith;
                    below = omega arith;
                  }
            ]

        pub adds_joined : IsJoined near index' items'
        adds_joined = record { laid = adds_laid; full = adds_full }

        pub adds_seen : (ys : List S) → items_in (near r.value.near) r.payload.start items' ≡ ys → (m : FinMap nat_cmp (Kept (Sliced H S))) → map_values (sliced_entry near items) index ≡ m
            → map_values (sliced_entry near items') index' ≡ insert m b (record { value = record { header = r.value.header; items = ys }; count = r.payload.count })
        adds_seen ys are m view =
            map_values-insert (sliced_entry near items') index index' b r added
            ∙ ap (λ n. insert n b (sliced_entry near items' r)) (map_values-same (sliced_entry near items') (sliced_entry near items) index stays ∙ view)
            ∙ ap (λ zs. insert m b (record { value = record { header = r.value.header; items = zs }; count = r.payload.count })) are

  -- the lists of the births that are marked are moved down
  module _ (index : FinMap nat_cmp (Row H A)) (items : List S) (marked : ℕ → Bool) (kept new : FinMap nat_cmp (Row H A)) (items' : List S) (keeps : kept ≡ retain_keys index marked)
      (same : (b : ℕ) → option_map (read_entry near items') (get new b) ≡ option_map (read_entry near items) (get kept b))
    where
      entries_same : (o p : Option (Row H A)) → option_map (read_entry near items') o ≡ option_map (read_entry near items) p → option_map (sliced_entry near items') o ≡ option_map (sliced_entry near items) p
      entries_same None None e = refl
      entries_same None (Some x) e = absurd (cc)
      entries_same (Some y) None e = absurd (cc)
      entries_same (Some y) (Some x) e = ap (λ p. Some p.1) (same_Some (read_entry near items' y) (read_entry near items x) e)

      pub keeps_seen : (m : FinMap nat_cmp (Kept (Sliced H S))) → map_values (sliced_entry near items) index ≡ m → map_values (sliced_entry near items') new ≡ retain_keys m marked
      keeps_seen m view =
          same_map nat_cmp_total nat_cmp-IsAntisymmetric _ _ (λ b.
          get-map_values (sliced_entry near items') new b ∙ entries_same (get new b) (get kept b) (same b) ∙ sym (get-map_values (sliced_entry near items) kept b))
          ∙ map_values-retain (sliced_entry near items) index kept marked keeps
          ∙ ap (λ n. retain_keys n marked) view
