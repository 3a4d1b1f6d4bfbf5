-- What an index has, and the entries that it is seen as.
use Rattle.std.proofs.Common.{◌≡◌, ℕ, Bool, true, false, cond, Option, Some, None, IfSome, IfNone, is_some, nat_eq, Result, Ok, Err, IfOk, OnOk, OnErr, refl, sym, ap, subst, ◌∙◌}
use Rattle.std.specs.Option.{option_map, ok_or}
use Rattle.std.specs.Ordering.{nat_cmp}
use Rattle.std.specs.FinMap.{FinMap, empty, get, insert, remove, retain_keys, get-empty}
use Rattle.std.proofs.lemmas.Bool.{eq-eqb}
use Rattle.std.proofs.lemmas.Option.{same_Some}
use Rattle.intern_store.specs.Kept.{Kept, is_where, recounted}
use Rattle.intern_store.proofs.Compared.{get-inserted, get-removed, get-retained}
use Rattle.intern_buckets.specs.Leading.{leads}
use Rattle.intern_index.specs.IndexEntry.{IndexEntry, Indexed, IsLed, has_hash, is_sought, with_payload, repaid}
use Rattle.intern_store.specs.Maps.{map_values}
use Rattle.intern_store.proofs.Maps.{map_values-insert, seen, is_some_seen}

-- a test is false, if from its truth it follows that it is false
settled : (t listed : Bool) → (t ≡ true → listed ≡ true) → (listed ≡ true → t ≡ false) → t ≡ false
settled true listed up down = down (up refl)
settled false listed up down = refl

pub ok_then : {X E Q : Type 0} {P : X → Type 0} (r : Result X E) → ((x : X) → P x → Q) → IfOk r P → OnOk r Q
ok_then (Ok x) f p = f x p
ok_then (Err e) f p = p

pub some_then : {X E : Type 0} {P Q : X → Type 0} (o : Option X) (e : E) → ((x : X) → P x → Q x) → IfSome o P → IfOk (ok_or o e) Q
some_then None e f p = p
some_then (Some x) e f p = f x p

module _ {T N : Type 0} (key : T → N → ℕ) where
  -- each entry is led to where there is none, or where those that are left were there
  pub empty_led : (i : Indexed T N) → i.entries ≡ empty → IsLed key i
  empty_led i none = record { led = λ b e at. let gone = ap (λ m. get m b) none ∙ get-empty nat_cmp b in absurd (cc) }

  less_led : (i n : Indexed T N) → IsLed key i → n.buckets ≡ i.buckets → ((b : ℕ) (e : IndexEntry T N) → get n.entries b ≡ Some e → get i.entries b ≡ Some e) → IsLed key n
  less_led i n is same was = record { led = λ b e at. ap (λ t. leads t (key e.value e.payload) e.place) same ∙ is.led b e (was b e at) }

  pub removed_led : (i n : Indexed T N) (b : ℕ) → IsLed key i → n ≡ record i { entries = remove i.entries b; room = n.room } → IsLed key n
  removed_led i n b is removed = less_led i n is (ap (λ (n : Indexed T N). n.buckets) removed) (λ q e at. go (nat_eq q b) q e (sym (ap (λ (n : Indexed T N). get n.entries q) removed ∙ get-removed i.entries b q) ∙ at))
    where
      go : (t : Bool) (q : ℕ) (e : IndexEntry T N) → cond t None (get i.entries q) ≡ Some e → get i.entries q ≡ Some e
      go true q e at = absurd (cc)
      go false q e at = at

  pub retained_led : (i n : Indexed T N) (marked : ℕ → Bool) → IsLed key i → n ≡ record i { entries = retain_keys i.entries marked; room = n.room } → IsLed key n
  retained_led i n marked is retained = less_led i n is (ap (λ (n : Indexed T N). n.buckets) retained) (λ q e at. go (marked q) q e (sym (ap (λ (n : Indexed T N). get n.entries q) retained ∙ get-retained i.entries marked q) ∙ at))
    where
      go : (t : Bool) (q : ℕ) (e : IndexEntry T N) → cond t (get i.entries q) None ≡ Some e → get i.entries q ≡ Some e
      go true q e at = at
      go false q e at = absurd (cc)

  -- each entry is led to by another hash, where that is the same of all that are there
  pub alike_led : (other : T → N → ℕ) (i n : Indexed T N) → n.buckets ≡ i.buckets → ((b : ℕ) (e : IndexEntry T N) → get n.entries b ≡ Some e → (d : IndexEntry T N) × (get i.entries b ≡ Some d) × (d.place ≡ e.place) × (key d.value d.payload ≡ other e.value e.payload)) → IsLed key i → IsLed other n
  alike_led other i n same alike is = record {
    led = λ b e at.
        let w = alike b e at in
        ap (λ t. leads t (other e.value e.payload) e.place) same ∙ sym (ap (λ p. leads i.buckets (other e.value e.payload) p) w.2)
        ∙ sym (ap (λ h. leads i.buckets h w.0.place) w.3) ∙ is.led b w.0 w.1;
  }

  -- a payload is changed, and not what is hashed of it
  module _ (f : N → N) (same : (v : T) (p : N) → key v (f p) ≡ key v p) (i n : Indexed T N) where
    pub repaid_led : (b : ℕ) → n ≡ repaid f i b → IsLed key i → IsLed key n
    repaid_led b changed is = go (get i.entries b) refl changed
      where
        go : (o : Option (IndexEntry T N)) → get i.entries b ≡ o → n ≡ record i { entries = with_payload f i.entries b o } → IsLed key n
        go None at changed = subst (IsLed key) (sym changed) is
        go (Some d) at changed = record { led = λ q e had. ap (λ (n : Indexed T N). leads n.buckets (key e.value e.payload) e.place) changed ∙ here (nat_eq q b) q e (sym (ap (λ (n : Indexed T N). get n.entries q) changed ∙ get-inserted i.entries b (record d { payload = f d.payload }) q) ∙ had) }
          where
            here : (t : Bool) (q : ℕ) (e : IndexEntry T N) → cond t (Some (record d { payload = f d.payload })) (get i.entries q) ≡ Some e → leads i.buckets (key e.value e.payload) e.place ≡ true
            here true q e had = subst (λ (e : IndexEntry T N). leads i.buckets (key e.value e.payload) e.place ≡ true) (same_Some _ _ had) (ap (λ h. leads i.buckets h d.place) (same d.value d.payload) ∙ is.led b d at)
            here false q e had = is.led q e had

    -- the same, where it is changed only if there is one to change
    pub found_led : {X : Type 0} (birth : X → ℕ) (o : Option X) → IfSome o (λ x. n ≡ repaid f i (birth x)) → IfNone o (n ≡ i) → IsLed key i → IsLed key n
    found_led birth None changed same is = subst (IsLed key) (sym same) is
    found_led birth (Some x) changed same is = repaid_led (birth x) changed is

-- the entries of an index in which a payload was changed
pub entries_repaid : {T N : Type 0} (f : N → N) (i n : Indexed T N) (b : ℕ) → n ≡ repaid f i b → n.entries ≡ with_payload f i.entries b (get i.entries b)
entries_repaid {T} {N} f i n b changed = ap (λ (n : Indexed T N). n.entries) changed

module _ {T N V : Type 0} (entry : IndexEntry T N → Kept V) where
  module _ (m : FinMap nat_cmp (IndexEntry T N)) (k : FinMap nat_cmp (Kept V)) (view : map_values entry m ≡ k) where
    -- an entry that is seen has a place
    pub placed : (b : ℕ) → is_some (option_map (λ r. r.place) (get m b)) ≡ is_some (get k b)
    placed b = go (get m b) ∙ is_some_seen entry m k view b
      where
        go : (o : Option (IndexEntry T N)) → is_some (option_map (λ r. r.place) o) ≡ is_some o
        go None = refl
        go (Some r) = refl

  -- a payload is changed, and with it the count that is seen
  module _ (f : N → N) (g : ℕ → ℕ) (counts : (r : IndexEntry T N) → entry (record r { payload = f r.payload }) ≡ record (entry r) { count = g (entry r).count })
      (m n : FinMap nat_cmp (IndexEntry T N)) (k : FinMap nat_cmp (Kept V)) (b : ℕ) (view : map_values entry m ≡ k) (changed : n ≡ with_payload f m b (get m b))
    where
      pub changed_seen : map_values entry n ≡ recounted g k b (get k b)
      changed_seen = go (get m b) changed ∙ ap (recounted g k b) (sym (seen entry m k view b))
        where
          go : (o : Option (IndexEntry T N)) → n ≡ with_payload f m b o → map_values entry n ≡ recounted g k b (option_map entry o)
          go None changed = ap (map_values entry) changed ∙ view
          go (Some r) changed =
              map_values-insert entry m n b (record r { payload = f r.payload }) changed
              ∙ ap (λ x. insert x b (entry (record r { payload = f r.payload }))) view
              ∙ ap (insert k b) (counts r)

  -- a search among the rows of a hash, seen as one among all entries
  module _ (fits : T → N → Bool) (test : V → Bool) (same : (r : IndexEntry T N) → fits r.value r.payload ≡ test (entry r).value) (i : Indexed T N) (k : FinMap nat_cmp (Kept V)) (view : map_values entry i.entries ≡ k) where
    -- what is sought in a row is what is at its entry
    pub sought_seen : (b : ℕ) → is_sought fits (get i.entries b) ≡ is_where test (get k b)
    sought_seen b = go (get i.entries b) ∙ sym (ap (is_where test) (seen entry i.entries k view b))
      where
        go : (o : Option (IndexEntry T N)) → is_sought fits o ≡ is_where test (option_map entry o)
        go None = refl
        go (Some r) = same r

    pub found : {X : Type 0} (birth : X → ℕ) (o : Option X) → IfSome o (λ x. is_sought fits (get i.entries (birth x)) ≡ true) → IfSome o (λ x. is_where test (get k (birth x)) ≡ true)
    found birth None has = has
    found birth (Some x) has = sym (sought_seen (birth x)) ∙ has

    pub finds : {X : Type 0} (birth : X → ℕ) (o : Option X) (h : ℕ) → IfSome o (λ x. is_sought fits (get i.entries (birth x)) ≡ true) → IfOk (ok_or o h) (λ x. is_where test (get k (birth x)) ≡ true)
    finds birth o h = some_then o h (λ x has. sym (sought_seen (birth x)) ∙ has)

    -- each is led to by the hash of the value that is seen, and what passes the test has hash h
    module _ (hash : V → ℕ) (h : ℕ) (alike : (x : V) → test x ≡ true → h ≡ hash x) (key : T → N → ℕ) (keys : (r : IndexEntry T N) → key r.value r.payload ≡ hash (entry r).value) (led : IsLed key i) where
      candidate : (b : ℕ) → is_where test (get k b) ≡ true → has_hash key h (get i.entries b) ≡ true
      candidate b passes = go (get i.entries b) (ap (is_where test) (sym (seen entry i.entries k view b)) ∙ passes)
        where
          go : (o : Option (IndexEntry T N)) → is_where test (option_map entry o) ≡ true → has_hash key h o ≡ true
          go None e = absurd (cc)
          go (Some r) e = eq-eqb h (key r.value r.payload) (alike (entry r).value e ∙ sym (keys r))

      pub unfound : {X : Type 0} (o : Option X)
          → IfNone o ((key : T → N → ℕ) → IsLed key i → (b : ℕ) → has_hash key h (get i.entries b) ≡ true → is_sought fits (get i.entries b) ≡ false) → IfNone o ((b : ℕ) → is_where test (get k b) ≡ false)
      unfound None apart = λ b. settled _ _ (candidate b) (λ has. sym (sought_seen b) ∙ apart key led b has)
      unfound (Some x) apart = apart

      pub finds_none : {X : Type 0} (o : Option X)
          → IfNone o ((key : T → N → ℕ) → IsLed key i → (b : ℕ) → has_hash key h (get i.entries b) ≡ true → is_sought fits (get i.entries b) ≡ false) → OnErr (ok_or o h) ((b : ℕ) → is_where test (get k b) ≡ false)
      finds_none {X} None apart = unfound {X = X} None apart
      finds_none (Some x) apart = apart
