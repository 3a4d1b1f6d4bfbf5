-- Paths of evaluations, and where reads lead.
use Rattle.std.proofs.Common.{◌≡◌, ℕ, zero, suc, ◌+◌, ◌<◌, ◌≤◌, List, [], ◌∷◌, ◌++◌, length, Some, None, slice_get, refl, sym, ap, subst, ◌∙◌, arith}
use Rattle.std.specs.Prelude.{All, Any, Contains, Vec, slice_index_or}
use Rattle.std.specs.declared.alloc.Global.{Global}
use Rattle.std.specs.List.{AllZip, AllByRecursion}
use Rattle.std.proofs.lemmas.List.Elements.{All-from_recursion, recursion_from_All, All-nil}
use Rattle.std.proofs.lemmas.Option.{same_Some, slice_get_within, get_or_from_slice_get, slice_get-get_or}
use Rattle.ra_ap_intern.specs.Handle.{ref_name}
use Rattle.ra_ap_intern.specs.Interning.{ReadsOn}
use Rattle.ra_ap_intern.specs.Name.{Name}
use Rattle.ra_ap_intern.specs.State.{State, reads}
use Rattle.queries.specs.Cache.{IsMemo, memo_now}
use Rattle.queries.specs.declared.cache.Memo.{Memo}
use Rattle.queries.specs.declared.key.Key.{Key}
use Rattle.queries.specs.declared.value.Answer.{Answer}
use Rattle.queries.specs.declared.value.Answer.TheVariants as answer
use Rattle.queries.specs.declared.path.Frame.{Frame}
use Rattle.queries.specs.declared.value.Value.{Value}
use Rattle.queries.specs.Evaluation.{EvaluatesIn, Evaluates, LeadsIn, LeadsToCycle, IsRight, Answers}
use Rattle.queries.specs.Path.{WaitsFor, AreValues, IsFrame, Chain, IsPath, IsStuck}
use Rattle.queries.specs.Sheet.{Formulas, reads_of, gives}

-- an element at an index is in the list
pub contains_at : {X : Type 0} (xs : List X) (n : ℕ) (x : X) → slice_get xs n ≡ Some x → Contains xs x
contains_at xs n x at = (n, slice_get_within xs n x at, get_or_from_slice_get xs n x x at)

-- pairs of two lists
zip_map : {X Y : Type 0} {R S : X → Y → Type 0} → ((x : X) (y : Y) → R x y → S x y)
    → (xs : List X) (ys : List Y) → AllZip R xs ys → AllZip S xs ys
zip_map more [] [] is = tt
zip_map more [] (y ∷ ys) is = absurd is
zip_map more (x ∷ xs) [] is = absurd is
zip_map more (x ∷ xs) (y ∷ ys) is = (more x y is.0, zip_map more xs ys is.1)

zip_same : {X Y : Type 0} {R S : X → Y → Type 0} → ((x : X) (y z : Y) → R x y → S x z → y ≡ z)
    → (xs : List X) (ys zs : List Y) → AllZip R xs ys → AllZip S xs zs → ys ≡ zs
zip_same one [] [] [] is at = refl
zip_same one [] [] (z ∷ zs) is at = absurd at
zip_same one [] (y ∷ ys) zs is at = absurd is
zip_same one (x ∷ xs) [] zs is at = absurd is
zip_same one (x ∷ xs) (y ∷ ys) [] is at = absurd at
zip_same one (x ∷ xs) (y ∷ ys) (z ∷ zs) is at =
    let first = one x y z is.0 at.0 in
    let rest = zip_same one xs ys zs is.1 at.1 in λ i. first i ∷ rest i

zip_at : {X Y : Type 0} (R : X → Y → Type 0) (xs : List X) (ys : List Y) (n : ℕ) (x : X)
    → AllZip R xs ys → slice_get xs n ≡ Some x → (y : Y) × R x y
zip_at R [] ys n x is at = absurd (cc)
zip_at R (x ∷ xs) [] n z is at = absurd is
zip_at R (x ∷ xs) (y ∷ ys) zero z is at = (y, subst (λ q. R q y) (same_Some _ _ at) is.0)
zip_at R (x ∷ xs) (y ∷ ys) (suc n) z is at = zip_at R xs ys n z is.1 at

zip_contains : {X Y : Type 0} (R : X → Y → Type 0) (xs : List X) (ys : List Y) (x : X)
    → AllZip R xs ys → Contains xs x → (y : Y) × R x y
zip_contains R xs ys x is among =
    zip_at R xs ys among.0 x is (slice_get-get_or xs among.0 x among.1 ∙ ap Some among.2)

module _ (sheet : Formulas) where
  abbrev pub Leads : Key → Key → Type 0
  Leads from to = (steps : ℕ) × LeadsIn sheet steps from to

  abbrev pub LeadsOn : Key → Key → Type 0
  LeadsOn from to = (steps : ℕ) × LeadsIn sheet (suc steps) from to

  leads_both : (steps : ℕ) (a b c : Key) → LeadsIn sheet steps a b → Leads b c → Leads a c
  leads_both zero a b c is more = subst (λ k. Leads k c) (sym is) more
  leads_both (suc steps) a b c is more =
      let rest = leads_both steps is.0 b c is.2 more in (suc rest.0, (is.0, is.1, rest.1))

  pub leads_far : (a b c : Key) → Leads a b → Leads b c → Leads a c
  leads_far a b c is more = leads_both is.0 a b c is.1 more

  leads_first : (a b c : Key) → LeadsOn a b → Leads b c → LeadsOn a c
  leads_first a b c is more =
      let rest = leads_far is.1.0 b c (is.0, is.1.2) more in (rest.0, (is.1.0, is.1.1, rest.1))

  pub one_step : (a b : Key) → Contains (reads_of sheet a) b → LeadsOn a b
  one_step a b is = (0, (b, is, refl))

  pub on_leads : (a b : Key) → LeadsOn a b → Leads a b
  on_leads a b is = (suc is.0, is.1)

  -- what leads to what leads to a cycle leads to it
  pub cycle_before : (a b through : Key) → Leads a b → LeadsToCycle sheet b through
      → LeadsToCycle sheet a through
  cycle_before a b through is cycle =
      let far = leads_far a b through is (cycle.before, cycle.reaches) in
      record { before = far.0; reaches = far.1; around = cycle.around; returns = cycle.returns }

  pub cycle_itself : (a : Key) → LeadsOn a a → LeadsToCycle sheet a a
  cycle_itself a is = record { before = 0; reaches = refl; around = is.0; returns = is.1 }

  module _ (keys : State Key) where
    pub waits_reads : (frame : Frame) (key : Key) → IsFrame sheet keys frame → WaitsFor frame key
        → Contains (reads_of sheet frame.key) key
    waits_reads frame key is waits =
        contains_at _ (length frame.values.items) key
        (subst (λ ks. slice_get ks (length frame.values.items) ≡ Some key) is.wants waits)

    -- the path leads from its first query to its last
    chain_leads : (frames : List Frame) (first last : Key) → Chain sheet first frames last
        → AllByRecursion (IsFrame sheet keys) frames → Leads first last
    chain_leads [] first last is all = (0, is)
    chain_leads (f ∷ fs) first last is all =
        let rest = chain_leads fs is.1 last is.3 all.1 in (
          suc rest.0,
          (
            is.1,
            subst (λ k. Contains (reads_of sheet k) is.1) (sym is.0)
                (waits_reads f is.1 all.0 is.2),
            rest.1,
          ),
        )

    -- and so does each query on it
    each_leads : (frames : List Frame) (first last : Key) → Chain sheet first frames last
        → AllByRecursion (IsFrame sheet keys) frames
        → AllByRecursion (λ f. LeadsOn f.key last) frames
    each_leads [] first last is all = tt
    each_leads (f ∷ fs) first last is all = (
      leads_first f.key is.1 last (one_step f.key is.1 (waits_reads f is.1 all.0 is.2))
          (chain_leads fs is.1 last is.3 all.1),
      each_leads fs is.1 last is.3 all.1,
    )

    pub path_leads : (first last : Key) (frames : List Frame) → IsPath sheet keys first frames last
        → Leads first last
    path_leads first last frames is =
        chain_leads frames first last is.chain (recursion_from_All _ frames is.each)

    pub path_each_leads : (first last : Key) (frames : List Frame)
        → IsPath sheet keys first frames last → All (λ f. LeadsOn f.key last) frames
    path_each_leads first last frames is =
        All-from_recursion _ frames
        (each_leads frames first last is.chain (recursion_from_All _ frames is.each))

    -- one more query waits
    chain_push : (frames : List Frame) (first last : Key) (top : Frame) (key : Key)
        → Chain sheet first frames last → top.key ≡ last → WaitsFor top key
        → Chain sheet first (frames ++ top ∷ []) key
    chain_push [] first last top key is at waits = (is ∙ sym at, key, waits, refl)
    chain_push (f ∷ fs) first last top key is at waits =
        (is.0, is.1, is.2, chain_push fs is.1 last top key is.3 at waits)

    each_push : (frames : List Frame) (top : Frame) → AllByRecursion (IsFrame sheet keys) frames
        → IsFrame sheet keys top → AllByRecursion (IsFrame sheet keys) (frames ++ top ∷ [])
    each_push [] top all is = (is, tt)
    each_push (f ∷ fs) top all is = (all.0, each_push fs top all.1 is)

    pub path_push : (frames : List Frame) (first : Key) (top : Frame) (key : Key)
        → IsPath sheet keys first frames top.key → IsFrame sheet keys top → WaitsFor top key
        → IsPath sheet keys first (frames ++ top ∷ []) key
    path_push frames first top key is at waits = record {
      chain = chain_push frames first top.key top key is.chain refl waits;
      each = All-from_recursion _ _ (each_push frames top (recursion_from_All _ frames is.each) at);
    }

    -- the last query that waits goes on
    chain_pop : (frames : List Frame) (first last : Key) (top : Frame)
        → Chain sheet first (frames ++ top ∷ []) last
        → Chain sheet first frames top.key × WaitsFor top last
    chain_pop [] first last top is = (is.0, subst (WaitsFor top) is.3 is.2)
    chain_pop (f ∷ fs) first last top is =
        let rest = chain_pop fs is.1 last top is.3 in ((is.0, is.1, is.2, rest.0), rest.1)

    each_pop : (frames : List Frame) (top : Frame)
        → AllByRecursion (IsFrame sheet keys) (frames ++ top ∷ [])
        → AllByRecursion (IsFrame sheet keys) frames × IsFrame sheet keys top
    each_pop [] top all = (tt, all.0)
    each_pop (f ∷ fs) top all = let rest = each_pop fs top all.1 in ((all.0, rest.0), rest.1)

    pub path_pop : (frames : List Frame) (first last : Key) (top : Frame)
        → IsPath sheet keys first (frames ++ top ∷ []) last
        → IsPath sheet keys first frames top.key × IsFrame sheet keys top × WaitsFor top last
    path_pop frames first last top is =
        let chain = chain_pop frames first last top is.chain in
        let each = each_pop frames top (recursion_from_All _ _ is.each) in
        (record { chain = chain.0; each = All-from_recursion _ _ each.0 }, each.1, chain.1)

  -- more queries are stored
  pub frame_on : (old new : State Key) → ReadsOn old new → (frame : Frame) → IsFrame sheet old frame
      → IsFrame sheet new frame
  frame_on old new on frame is = record {
    stored = on (ref_name frame.handle) frame.key is.stored;
    wants = is.wants;
    values = is.values;
  }

  pub path_on : (old new : State Key) → ReadsOn old new → (first last : Key) (frames : List Frame)
      → IsPath sheet old first frames last → IsPath sheet new first frames last
  path_on old new on first last frames is =
      record { chain = is.chain; each = λ k d lt. frame_on old new on _ (is.each k d lt) }

  -- where no query waits, the last is the first
  pub path_none : (keys : State Key) (first last : Key) → IsPath sheet keys first [] last
      → first ≡ last
  path_none keys first last is = is.chain

  pub path_new : (keys : State Key) (key last : Key) → key ≡ last → IsPath sheet keys key [] last
  path_new keys key last is = record { chain = is; each = All-nil (IsFrame sheet keys) }

  module _ (keys : State Key) (top : Frame) (key : Key) (at : IsFrame sheet keys top)
      (waits : WaitsFor top key) where
    step_on : LeadsOn top.key key
    step_on = one_step top.key key (waits_reads keys top key at waits)

    -- a query that reads itself
    pub cycle_top : (name : Name) → ref_name top.handle ≡ name → reads keys name ≡ Some key
        → LeadsToCycle sheet key key
    cycle_top name same read =
        let one : top.key ≡ key = same_Some _ _ (sym at.stored ∙ ap (reads keys) same ∙ read) in
        cycle_itself key (subst (λ k. LeadsOn k key) one step_on)

    module _ (first : Key) (frames : List Frame) (is : IsPath sheet keys first frames top.key) where
      each_on : (k : ℕ) (f : Frame) → k < length frames → slice_index_or frames k f ≡ f
          → LeadsOn f.key key
      each_on k f lt here =
          leads_first f.key top.key key
          (subst (λ (g : Frame). LeadsOn g.key top.key) here
          (path_each_leads keys first top.key frames is k f lt))
          (on_leads top.key key step_on)

      -- a query for which another waits that it waits for
      pub cycle_path : (name : Name) → Any (λ (f : Frame). ref_name f.handle ≡ name) frames
          → reads keys name ≡ Some key → LeadsToCycle sheet key key
      cycle_path name any read =
          let f : Frame = any.1 in
          let frame : IsFrame sheet keys f = subst (IsFrame sheet keys) any.3 (is.each any.0 f any.2) in
          let one : f.key ≡ key = same_Some _ _ (sym frame.stored ∙ ap (reads keys) any.4 ∙ read) in
          cycle_itself key (subst (λ k. LeadsOn k key) one (each_on any.0 f any.2 any.3))

      -- all that wait lead to the cycle of the query that is read
      module _ (through : Key) (cycle : LeadsToCycle sheet key through) where
        pub stuck_top : IsStuck sheet keys through top
        stuck_top = record {
          stored = at.stored;
          cyclic = cycle_before top.key key through (on_leads top.key key step_on) cycle;
        }

        pub stuck_path : All (IsStuck sheet keys through) frames
        stuck_path k d lt =
            let f : Frame = slice_index_or frames k d in record {
              stored = (is.each k d lt).stored;
              cyclic = cycle_before f.key key through
                  (on_leads f.key key (leads_first f.key top.key key
                  (path_each_leads keys first top.key frames is k d lt)
                  (on_leads top.key key step_on))) cycle;
            }

        pub stuck_first : LeadsToCycle sheet first through
        stuck_first =
            cycle_before first key through
            (leads_far first top.key key (path_leads keys first top.key frames is)
            (on_leads top.key key step_on)) cycle

  -- one more value is read
  pub values_push : (keys : List Key) (values : List Value) (key : Key) (value : Value)
      → AreValues sheet keys values → slice_get keys (length values) ≡ Some key
      → Evaluates sheet key value → AreValues sheet keys (values ++ value ∷ [])
  values_push [] [] key value is at right = absurd (cc)
  values_push [] (v ∷ vs) key value is at right = absurd is
  values_push (k ∷ ks) [] key value is at right =
      (subst (λ q. Evaluates sheet q value) (sym (same_Some _ _ at)) right, tt)
  values_push (k ∷ ks) (v ∷ vs) key value is at right =
      (is.0, values_push ks vs key value is.1 at right)

  -- a value is one to each greater depth
  pub deeper : (d e : ℕ) → d ≤ e → (key : Key) (value : Value) → EvaluatesIn sheet d key value
      → EvaluatesIn sheet e key value
  deeper zero e le key value is = absurd is
  deeper (suc d) zero le key value is = absurd (omega arith)
  deeper (suc d) (suc e) le key value is =
      (is.0, zip_map (deeper d e (omega arith)) (reads_of sheet key) is.0 is.1, is.2)

  -- all values are read
  pub values_all : (keys : List Key) (values : List Value) → AreValues sheet keys values
      → slice_get keys (length values) ≡ None
      → (depth : ℕ) × AllZip (EvaluatesIn sheet depth) keys values
  values_all [] [] is none = (0, tt)
  values_all [] (v ∷ vs) is none = absurd is
  values_all (k ∷ ks) [] is none = absurd (cc)
  values_all (k ∷ ks) (v ∷ vs) is none =
      let rest = values_all ks vs is.1 none in
      let one = is.0 in (
        one.0 + rest.0,
        (
          deeper one.0 (one.0 + rest.0) (omega arith) k v one.1,
          zip_map (deeper rest.0 (one.0 + rest.0) (omega arith)) ks vs rest.1,
        ),
      )

  -- what a query gives from all values that it reads is its value
  pub settled : (keys : State Key) (frame : Frame) (value : Value) → IsFrame sheet keys frame
      → slice_get frame.wants.items (length frame.values.items) ≡ None
      → value ≡ gives sheet frame.key frame.values.items → Evaluates sheet frame.key value
  settled keys frame value is none given =
      let all = values_all _ _ is.values none in (
        suc all.0,
        (
          frame.values.items,
          subst (λ ks. AllZip (EvaluatesIn sheet all.0) ks frame.values.items) is.wants all.1,
          given,
        ),
      )

  -- its memo
  pub settled_memo : (keys : State Key) (revision : ℕ) (frame : Frame) (value : Value) (memo : Memo)
      → IsFrame sheet keys frame → slice_get frame.wants.items (length frame.values.items) ≡ None
      → value ≡ gives sheet frame.key frame.values.items → memo.answer ≡ answer.Value value
      → memo.values.items ≡ frame.values.items → memo.verified ≡ revision
      → IsMemo sheet keys revision (ref_name frame.handle) memo
  settled_memo keys revision frame value memo is none given answered read now = record {
    key = frame.key;
    stored = is.stored;
    early = omega (arith, now);
    given = λ other has. same_value (sym has ∙ answered) ∙ given ∙ ap (gives sheet frame.key) (sym read);
    right = λ _. subst (IsRight sheet frame.key) (sym answered) (settled keys frame value is none given);
  }
    where
      same_value : {v w : Value} → answer.Value v ≡ answer.Value w → v ≡ w
      same_value is = cc

  -- the memo of a query that leads to a cycle
  pub stuck_memo : (keys : State Key) (revision : ℕ) (through : Key) (frame : Frame)
      (values : Vec Value Global) → IsStuck sheet keys through frame
      → IsMemo sheet keys revision (ref_name frame.handle) (memo_now (answer.Cycle through) values revision)
  stuck_memo keys revision through frame values is = record {
    key = frame.key;
    stored = is.stored;
    early = omega arith;
    given = λ value has. absurd (cc);
    right = λ now. is.cyclic;
  }

  -- a query that has read one more value
  pub frame_take : (keys : State Key) (frame later : Frame) (key : Key) (value : Value)
      → IsFrame sheet keys frame → WaitsFor frame key → Evaluates sheet key value
      → later.key ≡ frame.key → later.handle ≡ frame.handle → later.wants.items ≡ frame.wants.items
      → later.values.items ≡ frame.values.items ++ value ∷ [] → IsFrame sheet keys later
  frame_take keys frame later key value is waits right same_key same_handle same_wants more = record {
    stored = ap (λ h. reads keys (ref_name h)) same_handle ∙ is.stored ∙ ap Some (sym same_key);
    wants = same_wants ∙ is.wants ∙ ap (reads_of sheet) (sym same_key);
    values =
        subst (AreValues sheet later.wants.items) (sym more)
        (subst (λ ks. AreValues sheet ks (frame.values.items ++ value ∷ [])) (sym same_wants)
        (values_push frame.wants.items frame.values.items key value is.values waits right));
  }

  -- a query that waited goes on with the value that it waited for
  pub path_takes : (keys : State Key) (first last : Key) (frames : List Frame) (old : List Frame)
      (waiting later : Frame) (value : Value) → IsPath sheet keys first old last
      → old ≡ frames ++ waiting ∷ [] → Evaluates sheet last value → later.key ≡ waiting.key
      → later.handle ≡ waiting.handle → later.wants.items ≡ waiting.wants.items
      → later.values.items ≡ waiting.values.items ++ value ∷ []
      → IsFrame sheet keys later × IsPath sheet keys first frames later.key
  path_takes keys first last frames old waiting later value is popped right same_key same_handle same_wants more =
      let p = path_pop keys frames first last waiting (subst (λ fs. IsPath sheet keys first fs last) popped is) in (
        frame_take keys waiting later last value p.1 p.2 right same_key same_handle same_wants more,
        subst (IsPath sheet keys first frames) (sym same_key) p.0,
      )

  -- a query has one value
  one_value_in : (d e : ℕ) (key : Key) (v w : Value) → EvaluatesIn sheet d key v
      → EvaluatesIn sheet e key w → v ≡ w
  one_value_in zero e key v w is at = absurd is
  one_value_in (suc d) zero key v w is at = absurd at
  one_value_in (suc d) (suc e) key v w is at =
      is.2 ∙ ap (gives sheet key) (zip_same (one_value_in d e) (reads_of sheet key) is.0 at.0 is.1 at.1)
      ∙ sym at.2

  pub one_value : (key : Key) (v w : Value) → Evaluates sheet key v → Evaluates sheet key w → v ≡ w
  one_value key v w is at = one_value_in is.0 at.0 key v w is.1 at.1

  -- where a query that has a value leads to, there is a value at a smaller depth
  lower : (steps d : ℕ) (a b : Key) (v : Value) → LeadsIn sheet steps a b → EvaluatesIn sheet d a v
      → (e : ℕ) × (w : Value) × (e + steps ≤ d) × EvaluatesIn sheet e b w
  lower zero d a b v leads is = (d, v, omega arith, subst (λ k. EvaluatesIn sheet d k v) leads is)
  lower (suc steps) zero a b v leads is = absurd is
  lower (suc steps) (suc d) a b v leads is =
      let at = zip_contains (EvaluatesIn sheet d) (reads_of sheet a) is.0 leads.0 is.1 leads.1 in
      let rest = lower steps d leads.0 b at.0 leads.2 at.1 in
      (rest.0, rest.1, omega (arith, rest.2), rest.3)

  no_depth : (n d : ℕ) → d ≤ n → (through : Key) (v : Value) → LeadsOn through through
      → EvaluatesIn sheet d through v → ⊥
  no_depth zero d le through v around is =
      let rest = lower (suc around.0) d through through v around.1 is in absurd (omega (arith, rest.2))
  no_depth (suc n) d le through v around is =
      let rest = lower (suc around.0) d through through v around.1 is in
      no_depth n rest.0 (omega (arith, rest.2)) through rest.1 around rest.3

  -- a query that leads to a cycle has no value
  pub no_value : (key through : Key) → LeadsToCycle sheet key through → (v : Value)
      → Evaluates sheet key v → ⊥
  no_value key through cycle v is =
      let rest = lower cycle.before is.0 key through v cycle.reaches is.1 in
      no_depth rest.0 rest.0 (omega arith) through rest.1 (cycle.around, cycle.returns) rest.3

  -- so right answers say all that there is to say
  pub right_answers : (key : Key) (given : Answer) → IsRight sheet key given → Answers sheet key given
  right_answers key (answer.Value value) is = (is, λ other at. one_value key other value at is)
  right_answers key (answer.Cycle through) is = (is, no_value key through is)
