-- That an evaluation ends: each step leaves fewer.
use Rattle.std.proofs.Common.{◌≡◌, ◌↔◌, ◌⊎◌, inl, inr, ℕ, zero, suc, ◌+◌, ◌-◌, ◌≤◌, Bool, true, false, cond, ◌||◌, List, [], ◌∷◌, ◌++◌, length, map, Option, Some, None, IsSome, is_some, slice_get, refl, sym, ap, subst, ◌∙◌, arith}
use Rattle.std.specs.Cmp.{IsEquivalence}
use Rattle.std.specs.List.{flat_map, list_any, range_with_len, AllByRecursion}
use Rattle.std.specs.Map.{lookup}
use Rattle.std.proofs.lemmas.Bool.{and_parts, and_from, eq-eqb, eqb-true}
use Rattle.std.proofs.lemmas.List.Elements.{recursion_from_All}
use Rattle.std.proofs.lemmas.List.Folds.{Any-from_list_any}
use Rattle.std.proofs.lemmas.List.{length-append}
use Rattle.std.proofs.lemmas.Option.{same_Some, slice_get_within}
use Rattle.ra_ap_intern.specs.Handle.{ref_name}
use Rattle.ra_ap_intern.specs.Name.{Name}
use Rattle.ra_ap_intern.specs.Named.{same_name}
use Rattle.ra_ap_intern.specs.State.{State, IsState, any_count, due_interning, interned, reads, name_of_value}
use Rattle.ra_ap_intern.proofs.CallerLemmas.{equality_tested, found_itself, found_reads, names_same, same_names, read_found, state_interned, viewed_equivalence}
use Rattle.ra_ap_intern.specs.Interning.{ReadsOn}
use Rattle.queries.specs.declared.cache.Cache.{Cache}
use Rattle.queries.specs.declared.cache.Memo.{Memo}
use Rattle.queries.specs.declared.key.Function.{Function}
use Rattle.queries.specs.declared.key.Function.TheVariants as function
use Rattle.queries.specs.declared.key.Key.{Key}
use Rattle.queries.specs.declared.key.Key.TheVariants.{Cell, Total}
use Rattle.queries.specs.declared.path.Frame.{Frame}
use Rattle.queries.specs.declared.place.Block.{Block}
use Rattle.queries.specs.declared.place.Place.{Place}
use Rattle.queries.specs.declared.value.Value.{Value}
use Rattle.queries.specs.Cache.{memo_at, current_answer}
use Rattle.queries.specs.Path.{Chain, IsFrame, IsPath, IsWaiting, WaitsFor}
use Rattle.queries.specs.Sheet.{Formulas, column_cells, formula_reads, reads_of, same_place}
use Rattle.queries.specs.Steps.{function_number, same_block, same_key, cells_in, read_by, reachable, is_begun, steps_ahead, steps_within, steps_left, KeepsBegun, IsSettled}

-- ---- queries that are found to be one are

abbrev function_of : ℕ → Function
function_of zero = function.Sum
function_of (suc zero) = function.Min
function_of (suc (suc zero)) = function.Max
function_of (suc (suc (suc n))) = function.Count

function_back : (f : Function) → function_of (function_number f) ≡ f
function_back function.Sum = refl
function_back function.Min = refl
function_back function.Max = refl
function_back function.Count = refl

functions_same : (f g : Function) → function_number f ≡ function_number g → f ≡ g
functions_same f g is = sym (function_back f) ∙ ap function_of is ∙ function_back g

blocks_same : (b c : Block) → same_block b c ≡ true → b ≡ c
blocks_same b c is =
    let halves = and_parts _ _ is in
    let sides = and_parts _ _ halves.0 in
    let ends = and_parts _ _ halves.1 in
    let left = eqb-true b.left c.left sides.0 in
    let right = eqb-true b.right c.right sides.1 in
    let top = eqb-true b.top c.top ends.0 in
    let bottom = eqb-true b.bottom c.bottom ends.1 in
    λ i. record { left = left i; right = right i; top = top i; bottom = bottom i }

keys_same : (a b : Key) → same_key a b ≡ true → a ≡ b
keys_same (Cell p) (Cell q) is =
    let both = and_parts _ _ is in
    let column = eqb-true p.column q.column both.0 in
    let row = eqb-true p.row q.row both.1 in
    ap Cell (λ i. record { column = column i; row = row i })
keys_same (Cell p) (Total g c) is = absurd (cc)
keys_same (Total f b) (Cell q) is = absurd (cc)
keys_same (Total f b) (Total g c) is =
    let both = and_parts _ _ is in
    let one = functions_same f g (eqb-true _ _ both.0) in
    let block = blocks_same b c both.1 in λ i. Total (one i) (block i)

same_keys : (a : Key) → same_key a a ≡ true
same_keys (Cell p) =
    and_from _ _ (eq-eqb p.column p.column refl) (eq-eqb p.row p.row refl)
same_keys (Total f b) =
    and_from _ _ (eq-eqb (function_number f) (function_number f) refl)
    (and_from _ _
    (and_from _ _ (eq-eqb b.left b.left refl) (eq-eqb b.right b.right refl))
    (and_from _ _ (eq-eqb b.top b.top refl) (eq-eqb b.bottom b.bottom refl)))

key_test : (a b : Key) → (same_key a b ≡ true) ↔ (a ≡ b)
key_test a b =
    (keys_same a b, λ is. subst (λ k. same_key a k ≡ true) is (same_keys a))

key_laws : IsEquivalence same_key
key_laws = viewed_equivalence same_key (λ k. k) key_test

module _ (eq : Key → Key → Bool) (alike : (a b : Key) → (eq a b ≡ true) ↔ (a ≡ b)) where
  pub state_of_keys : (s : State Key) → IsState eq s → IsState same_key s
  state_of_keys s ok =
      subst (λ e. IsState e s)
      (λ i a b. equality_tested eq same_key (λ k. k) alike keys_same same_keys a b i) ok

  -- the storage stays one where a query is stored
  pub stored_state : (s t : State Key) (key : Key) → IsState eq s
      → due_interning eq s key any_count ≡ None → t ≡ (interned eq s key).state → IsState eq t
  stored_state s t key ok due now =
      subst (IsState eq) (sym now)
      (state_interned eq (viewed_equivalence eq (λ k. k) alike) s key ok due)

-- a stored query is found
pub key_found : (s : State Key) → IsState same_key s → (key : Key) (name : Name)
    → reads s name ≡ Some key → name_of_value same_key s key ≡ Some name
key_found s ok = found_itself same_key key_test s ok

-- ---- members of lists

abbrev In : {X : Type 0} → List X → X → Type 0
In [] x = ⊥
In (y ∷ ys) x = (y ≡ x) ⊎ In ys x

in_left : {X : Type 0} (xs ys : List X) (x : X) → In xs x → In (xs ++ ys) x
in_left [] ys x is = absurd is
in_left (z ∷ zs) ys x (inl is) = inl is
in_left (z ∷ zs) ys x (inr is) = inr (in_left zs ys x is)

in_right : {X : Type 0} (xs ys : List X) (x : X) → In ys x → In (xs ++ ys) x
in_right [] ys x is = is
in_right (z ∷ zs) ys x is = inr (in_right zs ys x is)

in_either : {X : Type 0} (xs ys : List X) (x : X) → In (xs ++ ys) x → In xs x ⊎ In ys x
in_either [] ys x is = inr is
in_either (z ∷ zs) ys x (inl is) = inl (inl is)
in_either (z ∷ zs) ys x (inr is) = elim (in_either zs ys x is) [
  | inl first ↦ inl (inr first)
  | inr second ↦ inr second
]

in_flat : {X Y : Type 0} (f : X → List Y) (xs : List X) (x : X) (y : Y) → In xs x → In (f x) y
    → In (flat_map f xs) y
in_flat f [] x y is at = absurd is
in_flat f (z ∷ zs) x y (inl is) at =
    in_left (f z) (flat_map f zs) y (subst (λ w. In (f w) y) (sym is) at)
in_flat f (z ∷ zs) x y (inr is) at = in_right (f z) (flat_map f zs) y (in_flat f zs x y is at)

flat_in : {X Y : Type 0} (f : X → List Y) (xs : List X) (y : Y) → In (flat_map f xs) y
    → (x : X) × In xs x × In (f x) y
flat_in f [] y is = absurd is
flat_in f (z ∷ zs) y is = elim (in_either (f z) (flat_map f zs) y is) [
  | inl first ↦ (z, inl refl, first)
  | inr later ↦ let rest = flat_in f zs y later in (rest.0, inr rest.1, rest.2)
]

map_in : {X Y : Type 0} (f : X → Y) (xs : List X) (y : Y) → In (map f xs) y → (x : X) × (f x ≡ y)
map_in f [] y is = absurd is
map_in f (z ∷ zs) y (inl is) = (z, is)
map_in f (z ∷ zs) y (inr is) = map_in f zs y is

in_at : {X : Type 0} (xs : List X) (n : ℕ) (x : X) → slice_get xs n ≡ Some x → In xs x
in_at [] n x is = absurd (cc)
in_at (y ∷ ys) zero x is = inl (same_Some _ _ is)
in_at (y ∷ ys) (suc n) x is = inr (in_at ys n x is)

-- ---- reads lead to nothing else

no_total : (k : Key) (f : Function) (b : Block) → In (cells_in k) (Total f b) → ⊥
no_total (Cell p) f b is = is
no_total (Total g c) f b is =
    let column = flat_in (column_cells c.top (c.bottom - c.top)) (range_with_len c.left (c.right - c.left))
    (Total f b) is in
    let cell = map_in (λ row. Cell (record { column = column.0; row = row }))
    (range_with_len c.top (c.bottom - c.top)) (Total f b) column.2 in
    let same = cell.1 in absurd (cc)

read_within : (test : Place → Bool) (sheet : Formulas) (k : Key)
    → In (formula_reads (lookup test sheet)) k → In (read_by sheet) k
read_within test [] k is = absurd is
read_within test (e ∷ es) k is = go (test e.0) (read_within test es k) is
  where
    go : (t : Bool) → (In (formula_reads (lookup test es)) k → In (read_by es) k)
        → In (formula_reads (cond t (Some e.1) (lookup test es))) k → In (read_by (e ∷ es)) k
    go true rest at = in_left e.1.reads (read_by es) k at
    go false rest at = in_right e.1.reads (read_by es) k (rest at)

module _ (sheet : Formulas) (root : Key) where
  in_reads : (k : Key) → In (read_by sheet) k → In (reachable sheet root) k
  in_reads k is = inr (in_right (cells_in root) _ k (in_left (read_by sheet) _ k is))

  -- what a reachable query reads is reachable
  reachable_on : (k j : Key) → In (reachable sheet root) k → In (reads_of sheet k) j
      → In (reachable sheet root) j
  reachable_on (Cell p) j is at = in_reads j (read_within (same_place p) sheet j at)
  reachable_on (Total f b) j (inl is) at =
      inr (in_left (cells_in root) _ j (subst (λ k. In (cells_in k) j) (sym is) at))
  reachable_on (Total f b) j (inr is) at = elim (in_either (cells_in root) _ (Total f b) is) [
    | inl cell ↦ absurd (no_total root f b cell)
    | inr later ↦ elim (in_either (read_by sheet) _ (Total f b) later) [
      | inl read ↦
          inr (in_right (cells_in root) _ j (in_right (read_by sheet) _ j
          (in_flat cells_in (read_by sheet) (Total f b) j read at)))
      | inr cell ↦
          let within = flat_in cells_in (read_by sheet) (Total f b) cell in
          absurd (no_total within.0 f b within.2)
    ]
  ]

  module _ (keys : State Key) where
    wanted : (f : Frame) (k : Key) → IsFrame sheet keys f → WaitsFor f k
        → In (reads_of sheet f.key) k
    wanted f k is waits =
        in_at _ (length f.values.items) k
        (subst (λ ks. slice_get ks (length f.values.items) ≡ Some k) is.wants waits)

    chain_reaches : (frames : List Frame) (first last : Key) → Chain sheet first frames last
        → AllByRecursion (IsFrame sheet keys) frames → In (reachable sheet root) first
        → In (reachable sheet root) last
    chain_reaches [] first last is all at = subst (In (reachable sheet root)) is at
    chain_reaches (f ∷ fs) first last is all at =
        chain_reaches fs is.1 last is.3 all.1
        (reachable_on f.key is.1 (subst (In (reachable sheet root)) is.0 at)
        (wanted f is.1 all.0 is.2))

    -- what the query at the end of a path reads next is reachable
    pub next_reachable : (frames : List Frame) (top : Frame) (k : Key)
        → IsPath sheet keys root frames top.key → IsFrame sheet keys top → WaitsFor top k
        → In (reachable sheet root) k
    next_reachable frames top k path at waits =
        reachable_on top.key k
        (chain_reaches frames root top.key path.chain (recursion_from_All _ frames path.each)
        (inl refl)) (wanted top k at waits)

-- ---- what is begun

-- where look-ups go on, and what is answered or open under a name does
keeps_by : (c d : Cache) (fs gs : List Frame) → IsState same_key d.keys → ReadsOn c.keys d.keys
    → ((n : Name) → is_begun c fs (Some n) ≡ true → is_begun d gs (Some n) ≡ true)
    → KeepsBegun c fs d gs
keeps_by c d fs gs ok on names k = go (name_of_value same_key c.keys k) refl
  where
    go : (o : Option Name) → name_of_value same_key c.keys k ≡ o → is_begun c fs o ≡ true
        → is_begun d gs (name_of_value same_key d.keys k) ≡ true
    go None at is = absurd (cc)
    go (Some n) at is =
        let r = found_reads same_key c.keys k n at in
        ap (is_begun d gs)
        (read_found same_key key_laws d.keys ok k n r.0 (on n r.0 r.1) r.2)
        ∙ names n is

-- more queries are stored
pub keeps_stored : (c d : Cache) (fs : List Frame) → IsState same_key d.keys
    → ReadsOn c.keys d.keys → d.memos ≡ c.memos → d.revision ≡ c.revision → KeepsBegun c fs d fs
keeps_stored c d fs ok on memos revision =
    keeps_by c d fs fs ok on (λ n is.
    ap (λ o. o || list_any (λ f. same_name n (ref_name f.handle)) fs) (same n) ∙ is)
  where
    same : (n : Name) → is_some (current_answer (memo_at d n) d.revision)
        ≡ is_some (current_answer (memo_at c n) c.revision)
    same n = λ i. is_some (current_answer (memo_at (record c { memos = memos i }) n) (revision i))

-- a query that is neither answered nor open
pub not_begun : (c : Cache) (top : Frame) (fs : List Frame) (n : Name)
    → (IsSome (current_answer (memo_at c n) c.revision) ⊎ IsWaiting n top fs → ⊥)
    → is_begun c (top ∷ fs) (Some n) ≡ false
not_begun c top fs n neither =
    go (is_some (current_answer (memo_at c n) c.revision)) refl (same_name n (ref_name top.handle)) refl
    (list_any (λ f. same_name n (ref_name f.handle)) fs) refl
  where
    go : (a : Bool) → is_some (current_answer (memo_at c n) c.revision) ≡ a
        → (b : Bool) → same_name n (ref_name top.handle) ≡ b
        → (d : Bool) → list_any (λ f. same_name n (ref_name f.handle)) fs ≡ d
        → is_begun c (top ∷ fs) (Some n) ≡ false
    go true a b at d is = absurd (neither (inl a))
    go false a true b d is = absurd (neither (inr (inl (sym (names_same _ _ b)))))
    go false a false b true d =
        let any = Any-from_list_any (λ f. same_name n (ref_name f.handle)) fs d in
        absurd (neither (inr (inr (any.0, any.1, any.2, any.3, sym (names_same _ _ any.4)))))
    go false a false b false d = λ i. a i || (b i || d i)

-- ---- steps

length_last : {X : Type 0} (xs : List X) (x : X) → length (xs ++ x ∷ []) ≡ length xs + 1
length_last xs x = length-append xs (x ∷ [])

within_at : {X : Type 0} (xs : List X) (n : ℕ) (x : X) → slice_get xs n ≡ Some x → n + 1 ≤ length xs
within_at xs n x is = let less = slice_get_within xs n x is in omega arith

less_one : (t u : Bool) (n : ℕ) → (t ≡ true → u ≡ true) → cond u 0 n ≤ cond t 0 n
less_one true true n on = omega arith
less_one true false n on = let no = on refl in absurd (cc)
less_one false true n on = omega arith
less_one false false n on = omega arith

module _ (sheet : Formulas) (c d : Cache) (fs gs : List Frame) (keeps : KeepsBegun c fs d gs) where
  ahead_less : (ks : List Key) → steps_ahead sheet d gs ks ≤ steps_ahead sheet c fs ks
  ahead_less [] = omega arith
  ahead_less (k ∷ ks) =
      let rest = ahead_less ks in
      let one = less_one (is_begun c fs (name_of_value same_key c.keys k))
      (is_begun d gs (name_of_value same_key d.keys k)) (length (reads_of sheet k) + 2) (keeps k) in
      omega arith

  -- a query that is begun takes its steps with it
  ahead_fewer : (key : Key) → is_begun c fs (name_of_value same_key c.keys key) ≡ false
      → is_begun d gs (name_of_value same_key d.keys key) ≡ true → (ks : List Key) → In ks key
      → steps_ahead sheet d gs ks + (length (reads_of sheet key) + 2) ≤ steps_ahead sheet c fs ks
  ahead_fewer key before after [] is = absurd is
  ahead_fewer key before after (k ∷ ks) (inl is) =
      let rest = ahead_less ks in
      let old : cond (is_begun c fs (name_of_value same_key c.keys k)) 0 (length (reads_of sheet k) + 2)
      ≡ length (reads_of sheet key) + 2 =
      (λ i. cond (is_begun c fs (name_of_value same_key c.keys (is i))) 0 (length (reads_of sheet (is i)) + 2))
      ∙ ap (λ t. cond t 0 (length (reads_of sheet key) + 2)) before in
      let new : cond (is_begun d gs (name_of_value same_key d.keys k)) 0 (length (reads_of sheet k) + 2) ≡ 0 =
      (λ i. cond (is_begun d gs (name_of_value same_key d.keys (is i))) 0 (length (reads_of sheet (is i)) + 2))
      ∙ ap (λ t. cond t 0 (length (reads_of sheet key) + 2)) after in
      omega arith
  ahead_fewer key before after (k ∷ ks) (inr is) =
      let rest = ahead_fewer key before after ks is in
      let one = less_one (is_begun c fs (name_of_value same_key c.keys k))
      (is_begun d gs (name_of_value same_key d.keys k)) (length (reads_of sheet k) + 2) (keeps k) in
      omega arith

within_last : (fs : List Frame) (f : Frame)
    → steps_within (fs ++ f ∷ []) ≡ steps_within (f ∷ fs)
within_last [] f = refl
within_last (g ∷ gs) f = let rest = within_last gs f in omega arith

pub any_last : {X : Type 0} (p : X → Bool) (fs : List X) (f : X)
    → list_any p (fs ++ f ∷ []) ≡ list_any p (f ∷ fs)
any_last p [] f = refl
any_last p (g ∷ gs) f = go (p g) (p f) (any_last p gs f)
  where
    go : (t u : Bool) → list_any p (gs ++ f ∷ []) ≡ (u || list_any p gs)
        → (t || list_any p (gs ++ f ∷ [])) ≡ (u || (t || list_any p gs))
    go true true is = refl
    go true false is = refl
    go false true is = is
    go false false is = is

module _ (sheet : Formulas) (root : Key) where
  -- a value is read
  pub nearer_take : (c : Cache) (top later : Frame) (fs : List Frame) (key : Key) (value : Value)
      → WaitsFor top key → later.handle ≡ top.handle → later.wants.items ≡ top.wants.items
      → later.values.items ≡ top.values.items ++ value ∷ []
      → steps_left sheet root c (later ∷ fs) + 1 ≤ steps_left sheet root c (top ∷ fs)
  nearer_take c top later fs key value waits handle wants values =
      let same : steps_ahead sheet c (later ∷ fs) (reachable sheet root)
      ≡ steps_ahead sheet c (top ∷ fs) (reachable sheet root) =
      λ i. steps_ahead sheet c ((record top { handle = handle i }) ∷ fs) (reachable sheet root) in
      let all : length later.wants.items ≡ length top.wants.items = ap length wants in
      let more : length later.values.items ≡ length top.values.items + 1 =
      ap length values ∙ length_last top.values.items value in
      let some : length top.values.items + 1 ≤ length top.wants.items =
      within_at top.wants.items (length top.values.items) key waits in
      omega arith

  -- a query is begun
  pub nearer_open : (c : Cache) (top opened : Frame) (fs frames : List Frame) (key : Key)
      → frames ≡ fs ++ top ∷ [] → IsState same_key c.keys
      → name_of_value same_key c.keys key ≡ Some (ref_name opened.handle)
      → is_begun c (top ∷ fs) (Some (ref_name opened.handle)) ≡ false
      → opened.wants.items ≡ reads_of sheet key → opened.values.items ≡ []
      → In (reachable sheet root) key
      → steps_left sheet root c (opened ∷ frames) + 1 ≤ steps_left sheet root c (top ∷ fs)
  nearer_open c top opened fs frames key pushed ok found isnt wants values among =
      let keeps : KeepsBegun c (top ∷ fs) c (opened ∷ frames) =
      keeps_by c c (top ∷ fs) (opened ∷ frames) ok (λ n k is. is) (λ n is.
      let p : Frame → Bool = λ f. same_name n (ref_name f.handle) in
      let all : list_any p frames ≡ list_any p (top ∷ fs) =
      ap (list_any p) pushed ∙ any_last p fs top in
      more (is_some (current_answer (memo_at c n) c.revision)) (p opened) (list_any p frames)
      (ap (λ t. is_some (current_answer (memo_at c n) c.revision) || t) all ∙ is)) in
      let name = ref_name opened.handle in
      let begun : is_begun c (opened ∷ frames) (Some name) ≡ true =
      last (is_some (current_answer (memo_at c name) c.revision)) (same_name name name)
      (list_any (λ f. same_name name (ref_name f.handle)) frames) (same_names name name refl) in
      let fewer = ahead_fewer sheet c c (top ∷ fs) (opened ∷ frames) keeps key
      (ap (is_begun c (top ∷ fs)) found ∙ isnt) (ap (is_begun c (opened ∷ frames)) found ∙ begun)
      (reachable sheet root) among in
      let all : length opened.wants.items ≡ length (reads_of sheet key) = ap length wants in
      let none : length opened.values.items ≡ 0 = ap length values in
      let within : steps_within frames ≡ steps_within (top ∷ fs) =
      ap steps_within pushed ∙ within_last fs top in
      omega arith
    where
      more : (a b d : Bool) → (a || d) ≡ true → (a || (b || d)) ≡ true
      more true b d is = refl
      more false true d is = refl
      more false false d is = is

      last : (a b d : Bool) → b ≡ true → (a || (b || d)) ≡ true
      last true b d is = refl
      last false true d is = refl
      last false false d is = absurd (cc)

  -- a query is answered, and the one that waited for it goes on
  pub nearer_finish : (c d : Cache) (top waiting later : Frame) (fs frames : List Frame)
      (value : Value) → IsState same_key c.keys → IsSettled c (ref_name top.handle) d
      → frames ≡ fs ++ waiting ∷ [] → later.handle ≡ waiting.handle
      → later.wants.items ≡ waiting.wants.items
      → later.values.items ≡ waiting.values.items ++ value ∷ []
      → steps_left sheet root d (later ∷ fs) + 1 ≤ steps_left sheet root c (top ∷ frames)
  nearer_finish c d top waiting later fs frames value ok settled popped handle wants values =
      let keeps : KeepsBegun c (top ∷ frames) d (later ∷ fs) =
      keeps_by c d (top ∷ frames) (later ∷ fs) (subst (IsState same_key) (sym settled.keys) ok)
      (λ n k is. ap (λ s. reads s n) settled.keys ∙ is) begun in
      let less = ahead_less sheet c d (top ∷ frames) (later ∷ fs) keeps (reachable sheet root) in
      let within : steps_within frames ≡ steps_within (waiting ∷ fs) =
      ap steps_within popped ∙ within_last fs waiting in
      let all : length later.wants.items ≡ length waiting.wants.items = ap length wants in
      let more : length later.values.items ≡ length waiting.values.items + 1 =
      ap length values ∙ length_last waiting.values.items value in
      omega arith
    where
      begun : (n : Name) → is_begun c (top ∷ frames) (Some n) ≡ true
          → is_begun d (later ∷ fs) (Some n) ≡ true
      begun n is = go (same_name (ref_name top.handle) n) refl
        where
          p : Frame → Bool
          p f = same_name n (ref_name f.handle)

          rest : list_any p (later ∷ fs) ≡ list_any p frames
          rest =
              (λ i. same_name n (ref_name (handle i)) || list_any p fs)
              ∙ sym (ap (list_any p) popped ∙ any_last p fs waiting)

          turn : (t : Bool) → same_name (ref_name top.handle) n ≡ false → p top ≡ t → t ≡ false
          turn false apart at = refl
          turn true apart at =
              let one : ref_name top.handle ≡ n = sym (names_same _ _ at) in
              let yes = same_names _ _ one in absurd (cc)

          first : (a b e : Bool) → (a || (b || e)) ≡ true → b ≡ false → (a || e) ≡ true
          first true b e is isnt = refl
          first false true e is isnt = absurd (cc)
          first false false e is isnt = is

          go : (t : Bool) → same_name (ref_name top.handle) n ≡ t
              → is_begun d (later ∷ fs) (Some n) ≡ true
          go true same =
              let now = ap (λ m. is_some (current_answer (memo_at d m) d.revision))
              (sym (names_same _ _ same)) ∙ settled.current in
              ap (λ t. t || list_any p (later ∷ fs)) now
          go false apart =
              let old : is_some (current_answer (memo_at d n) d.revision)
              ≡ is_some (current_answer (memo_at c n) c.revision) =
              λ i. is_some (current_answer (settled.others n apart i) (settled.revision i)) in
              (λ i. old i || rest i)
              ∙ first _ (p top) (list_any p frames) is (turn (p top) apart refl)

  -- more queries are stored
  pub nearer_stored : (c d : Cache) (fs : List Frame) → KeepsBegun c fs d fs
      → steps_left sheet root d fs ≤ steps_left sheet root c fs
  nearer_stored c d fs keeps =
      let less = ahead_less sheet c d fs fs keeps (reachable sheet root) in omega arith

-- a memo of this revision settles a query
pub settled_put : (old between new : Cache) (name : Name) (memo : Memo) → between.keys ≡ old.keys
    → between.memos ≡ old.memos → between.revision ≡ old.revision → new.keys ≡ between.keys
    → new.revision ≡ between.revision
    → ((n : Name) → memo_at new n ≡ cond (same_name name n) (Some memo) (memo_at between n))
    → memo.verified ≡ between.revision → IsSettled old name new
settled_put old between new name memo keys memos revision keys_on revision_on put now = record {
  keys = keys_on ∙ keys;
  revision = revision_on ∙ revision;
  current =
      ap (λ o. is_some (current_answer o new.revision))
      (put name ∙ ap (λ t. cond t (Some memo) (memo_at between name)) (same_names name name refl))
      ∙ ap (λ t. is_some (cond t (Some memo.answer) None))
      (eq-eqb memo.verified new.revision (now ∙ sym revision_on));
  others = λ other apart.
      put other ∙ ap (λ t. cond t (Some memo) (memo_at between other)) apart
      ∙ (λ i. memo_at (record between { memos = memos i }) other);
}
