-- What stays true of memos.
use Rattle.std.proofs.Common.{◌≡◌, ◌↔◌, ℕ, ◌+◌, ◌≤◌, Bool, true, false, cond, List, [], Option, Some, None, IfSome, is_some, refl, sym, ap, subst, ◌∙◌, arith}
use Rattle.std.specs.Bool.{then_some}
use Rattle.std.specs.HashMap.{HashMap}
use Rattle.std.specs.Map.{lookup}
use Rattle.ra_ap_intern.specs.Families.{kept_named}
use Rattle.std.proofs.lemmas.Bool.{and_parts, eqb-true}
use Rattle.std.proofs.lemmas.Option.{same_Some}
use Rattle.ra_ap_intern.specs.Handle.{ref_name}
use Rattle.ra_ap_intern.specs.Name.{Name}
use Rattle.ra_ap_intern.specs.Named.{same_name}
use Rattle.ra_ap_intern.specs.State.{State, IsState, reads, interned, name_of_value}
use Rattle.ra_ap_intern.specs.Under.{under_name}
use Rattle.ra_ap_intern.proofs.CallerLemmas.{names_same, some_read, interned_reads_on, found_itself, kept_was_read}
use Rattle.ra_ap_intern.specs.Interning.{ReadsOn}
use Rattle.queries.specs.declared.cache.Memo.{Memo}
use Rattle.queries.specs.declared.key.Key.{Key}
use Rattle.queries.specs.declared.key.Key.TheVariants.{Cell, Total}
use Rattle.queries.specs.declared.place.Place.{Place}
use Rattle.queries.specs.declared.value.Answer.TheVariants as answer
use Rattle.queries.specs.declared.value.Value.{Value}
use Rattle.queries.specs.Cache.{Handle, IsMemo, AreMemos}
use Rattle.queries.specs.Evaluation.{IsRight}
use Rattle.queries.specs.Sheet.{Formulas, formula_at, same_place, cell_value, gives}

-- ---- queries are interned

module _ (eq : Key → Key → Bool) (alike : (a b : Key) → (eq a b ≡ true) ↔ (a ≡ b)) where
  pub stored_on : (s t : State Key) → IsState eq s → (key : Key) → t ≡ (interned eq s key).state
      → ReadsOn s t
  stored_on s t ok key now name k at =
      ap (λ u. reads u name) now ∙ interned_reads_on eq s ok key name k at

  pub found_one : (s : State Key) → IsState eq s → (key : Key) (found name : Name)
      → Some found ≡ name_of_value eq s key → reads s name ≡ Some key → found ≡ name
  found_one s ok key found name at read =
      same_Some _ _ (at ∙ found_itself eq alike s ok key name read)

  pub found_none : (s : State Key) → IsState eq s → (key : Key) (name : Name)
      → None ≡ name_of_value eq s key → reads s name ≡ Some key → ⊥
  found_none s ok key name at read =
      let found = at ∙ found_itself eq alike s ok key name read in absurd (cc)

-- a value where a test holds
pub is_there : {X : Type 0} (o : Option X) (t : Bool) (x : X) → o ≡ then_some t x → is_some o ≡ t
is_there o true x is = ap is_some is
is_there o false x is = ap is_some is

pub fact_there : {X : Type 0} (P : X → Type 0) (o : Option X) (t : Bool) (x : X) → o ≡ then_some t x
    → (t ≡ true → P x) → IfSome o P
fact_there P o true x is holds = subst (λ q. IfSome q P) (sym is) (holds refl)
fact_there P o false x is holds = subst (λ q. IfSome q P) (sym is) tt

-- a memo that was taken away
pub none_here : (t : Bool) (before : Option Memo) → t ≡ true → cond t None before ≡ None
none_here true before is = refl
none_here false before is = absurd (cc)

pub none_elsewhere : (t : Bool) (before : Option Memo) (memo : Memo)
    → cond t None before ≡ Some memo → before ≡ Some memo
none_elsewhere true before memo is = absurd (cc)
none_elsewhere false before memo is = is

-- ---- a memo more, a query more, another sheet

module _ {S : Type 0} (sheet : Formulas) where
  pub memos_none : (keys : State Key) (revision : ℕ) (memos : HashMap Handle Memo S)
      → memos.entries ≡ [] → AreMemos sheet keys revision memos
  memos_none keys revision memos none h memo at =
      let found = sym (ap (lookup (λ r. same_name (ref_name h) (ref_name r))) none) ∙ at in absurd (cc)

  pub memo_put : (keys : State Key) (revision : ℕ) (old new : HashMap Handle Memo S)
      (handle : Handle) (memo : Memo) → AreMemos sheet keys revision old
      → IsMemo sheet keys revision (ref_name handle) memo
      → ((h : Handle) → under_name new (ref_name h)
      ≡ cond (same_name (ref_name handle) (ref_name h)) (Some memo) (under_name old (ref_name h)))
      → AreMemos sheet keys revision new
  memo_put keys revision old new handle memo is one put h other at =
      go (same_name (ref_name handle) (ref_name h)) refl (sym (put h) ∙ at)
    where
      go : (t : Bool) → same_name (ref_name handle) (ref_name h) ≡ t
          → cond t (Some memo) (under_name old (ref_name h)) ≡ Some other
          → IsMemo sheet keys revision (ref_name h) other
      go true same found =
          subst (λ (m : Memo). IsMemo sheet keys revision (ref_name h) m) (same_Some _ _ found)
          (subst (λ n. IsMemo sheet keys revision n memo) (names_same _ _ same) one)
      go false apart found = is h other found

  -- more queries are stored
  pub memos_on : (old new : State Key) (revision : ℕ) (memos : HashMap Handle Memo S)
      → AreMemos sheet old revision memos → ReadsOn old new → AreMemos sheet new revision memos
  memos_on old new revision memos is on h memo at =
      let m = is h memo at in record {
        key = m.key;
        stored = on (ref_name h) m.key m.stored;
        early = m.early;
        given = m.given;
        right = m.right;
      }

-- a memo of this revision has the right answer
pub memo_right : (sheet : Formulas) (keys : State Key) (revision : ℕ) (name : Name) (memo : Memo)
    (key : Key) → IsMemo sheet keys revision name memo → reads keys name ≡ Some key
    → memo.verified ≡ revision → IsRight sheet key memo.answer
memo_right sheet keys revision name memo key is read now =
    subst (λ k. IsRight sheet k memo.answer) (same_Some _ _ (sym is.stored ∙ read)) (is.right now)

-- an older memo's value is what the query gives from the values that it read
pub memo_given : (sheet : Formulas) (keys : State Key) (revision : ℕ) (name : Name) (memo : Memo)
    (key : Key) → IsMemo sheet keys revision name memo → reads keys name ≡ Some key
    → (value : Value) → memo.answer ≡ answer.Value value → (values : List Value)
    → memo.values.items ≡ values → value ≡ gives sheet key values
memo_given sheet keys revision name memo key is read value at values same =
    is.given value at
    ∙ (λ i. gives sheet (same_Some _ _ (sym is.stored ∙ read) i) (same i))

-- ---- an edit

same_places : (p q : Place) → same_place p q ≡ true → q ≡ p
same_places p q is =
    let both = and_parts _ _ is in
    let columns = sym (eqb-true _ _ both.0) in
    let rows = sym (eqb-true _ _ both.1) in λ i. record { column = columns i; row = rows i }

module _ (old new : Formulas) (place : Place)
    (others : (p : Place) → same_place place p ≡ false → formula_at new p ≡ formula_at old p) where
  -- every other query gives what it did
  gives_same : (key : Key) → ((p : Place) → key ≡ Cell p → same_place place p ≡ false)
      → (values : List Value) → gives new key values ≡ gives old key values
  gives_same (Cell p) apart values = ap (λ f. cell_value f values) (others p (apart p refl))
  gives_same (Total function block) apart values = refl

  pub memos_edited : {S : Type 0} (keys later : State Key) (revision next : ℕ)
      (memos left : HashMap Handle Memo S) → later ≡ keys → next ≡ revision + 1
      → AreMemos old keys revision memos
      → ((h : Handle) → reads keys (ref_name h) ≡ Some (Cell place) → under_name left (ref_name h) ≡ None)
      → ((h : Handle) (memo : Memo) → under_name left (ref_name h) ≡ Some memo → under_name memos (ref_name h) ≡ Some memo)
      → AreMemos new later next left
  memos_edited keys later revision next memos left same_keys one_more is gone kept h memo at =
      let m = is h memo (kept h memo at) in
      let late : memo.verified ≤ revision = m.early in record {
        key = m.key;
        stored = ap (λ s. reads s (ref_name h)) same_keys ∙ m.stored;
        early = omega arith;
        given = λ value has. m.given value has ∙ sym (gives_same m.key (apart m.key m.stored) memo.values.items);
        right = λ now. absurd (omega (arith, now, one_more));
      }
    where
      apart : (key : Key) → reads keys (ref_name h) ≡ Some key → (p : Place) → key ≡ Cell p → same_place place p ≡ false
      apart key read p cell = go (same_place place p) refl
        where
          go : (t : Bool) → same_place place p ≡ t → t ≡ false
          go false differs = refl
          go true same =
              let none = gone h (read ∙ ap Some (cell ∙ ap Cell (same_places place p same))) in
              absurd (cc)

-- ---- a collection

-- the memos of the queries that are left
pub memos_kept : {S : Type 0} (sheet : Formulas) (keys later : State Key) (revision : ℕ)
    (memos left : HashMap Handle Memo S) (set : Name → Bool) → AreMemos sheet keys revision memos
    → later ≡ kept_named keys set
    → ((h : Handle) → under_name left (ref_name h)
    ≡ cond (is_some (reads later (ref_name h))) (under_name memos (ref_name h)) None)
    → AreMemos sheet later revision left
memos_kept sheet keys later revision memos left set is kept filtered h memo at =
    go (is_some (reads later (ref_name h))) refl (sym (filtered h) ∙ at)
  where
    go : (t : Bool) → is_some (reads later (ref_name h)) ≡ t
        → cond t (under_name memos (ref_name h)) None ≡ Some memo
        → IsMemo sheet later revision (ref_name h) memo
    go true stays found =
        let m = is h memo found in
        let r = some_read (reads later (ref_name h)) stays in
        let was = kept_was_read keys set (ref_name h) r.0
        (ap (λ s. reads s (ref_name h)) (sym kept) ∙ r.1) in record {
          key = m.key;
          stored = r.1 ∙ sym was.1 ∙ m.stored;
          early = m.early;
          given = m.given;
          right = m.right;
        }
    go false goes found = absurd (cc)
