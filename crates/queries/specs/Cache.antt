-- What a cache keeps true of its memos.
use Rattle.std.specs.Prelude.{◌≡◌, ℕ, ◌+◌, ◌-◌, ◌^◌, ◌≤◌, ◌==◌, min, List, [], Option, None, Some, Vec, is_some, if◌then◌else◌}
use Rattle.std.specs.declared.alloc.Global.{Global}
use Rattle.std.specs.HashMap.{HashMap}
use Rattle.ra_ap_intern.specs.Families.{IsCollection, entries_of, kept_named}
use Rattle.ra_ap_intern.specs.Handle.{ref_name}
use Rattle.ra_ap_intern.specs.Name.{Name}
use Rattle.ra_ap_intern.specs.Names.{has}
use Rattle.ra_ap_intern.specs.Reach.{Entry, starts_with}
use Rattle.ra_ap_intern.specs.State.{State, reads}
use Rattle.ra_ap_intern.specs.Under.{under_name}
use Rattle.ra_ap_intern.specs.declared.gc.Collected.{Collected}
use Rattle.ra_ap_intern.specs.declared.kind.Values.{Values}
use Rattle.ra_ap_intern.specs.declared.storage.Ref.{Ref}
use Rattle.queries.specs.declared.cache.Cache.{Cache}
use Rattle.queries.specs.declared.cache.Counts.{Counts}
use Rattle.queries.specs.declared.cache.Memo.{Memo}
use Rattle.queries.specs.declared.key.Key.{Key}
use Rattle.queries.specs.declared.value.Answer.{Answer}
use Rattle.queries.specs.declared.value.Answer.TheVariants as answer
use Rattle.queries.specs.declared.value.Value.{Value}
use Rattle.queries.specs.Evaluation.{IsRight}
use Rattle.queries.specs.Sheet.{Formulas, gives}

-- a handle of a query
abbrev pub Handle : Type 0
Handle = Ref (Values Key)

-- the memo of a name
abbrev pub memo_at : Cache → Name → Option Memo
memo_at cache name = under_name cache.memos name

-- a memo of a query: its value is what the query gives from the values that the memo has read, and
-- its answer is right if it is of this revision
pub record IsMemo (sheet : Formulas) (keys : State Key) (revision : ℕ) (name : Name) (memo : Memo) : Type 0 where
  pub key : Key
  pub stored : reads keys name ≡ Some key
  pub early : memo.verified ≤ revision
  pub given : (value : Value) → memo.answer ≡ answer.Value value → value ≡ gives sheet key memo.values.items
  pub right : memo.verified ≡ revision → IsRight sheet key memo.answer

-- a memo of this revision, which has read these values
abbrev pub memo_now : Answer → Vec Value Global → ℕ → Memo
memo_now answer values revision = record { answer = answer; values = values; verified = revision }

-- each memo is one
abbrev pub AreMemos : {S : Type 0} → Formulas → State Key → ℕ → HashMap Handle Memo S → Type 0
AreMemos sheet keys revision memos = (handle : Handle) (memo : Memo)
    → under_name memos (ref_name handle) ≡ Some memo
    → IsMemo sheet keys revision (ref_name handle) memo

abbrev pub IsCache : Formulas → Cache → Type 0
IsCache sheet cache = AreMemos sheet cache.keys cache.revision cache.memos

-- the answer of a memo of this revision
abbrev pub current_answer : Option Memo → ℕ → Option Answer
current_answer None revision = None
current_answer (Some memo) revision = if memo.verified == revision then Some memo.answer else None

-- the memo of a name has a value, which was given from these
abbrev pub HasGiven : Cache → Name → List Value → Type 0
HasGiven cache name values = (memo : Memo) × (memo_at cache name ≡ Some memo)
    × (value : Value) × (memo.answer ≡ answer.Value value) × (memo.values.items ≡ values)

-- one more of a count, which ends at the greatest number
abbrev pub one_more : ℕ → ℕ
one_more n = min (n + 1) (2 ^ 64 - 1)

abbrev pub one_computed : Counts → Counts
one_computed c = record { computed = one_more c.computed; verified = c.verified; reused = c.reused }

abbrev pub one_verified : Counts → Counts
one_verified c = record { computed = c.computed; verified = one_more c.verified; reused = c.reused }

-- no query was answered
abbrev pub no_counts : Counts
no_counts = record { computed = 0; verified = 0; reused = 0 }

-- no count has fallen
abbrev pub CountsOn : Counts → Counts → Type 0
CountsOn old new =
    (old.computed ≤ new.computed) × (old.verified ≤ new.verified) × (old.reused ≤ new.reused)

-- the queries, as a collection sees them: none has parts
abbrev pub queries_of : State Key → List Entry
queries_of keys = entries_of (λ key. []) keys

-- what a collection from the listed queries leaves: these, and those that are counted, each with
-- the memo that it had
pub record IsCollected (listed : List Name) (old new : Cache) (removed : ℕ) : Type 0 where
  pub names : List Name
  pub told : Collected
  pub reached : IsCollection (starts_with listed (queries_of old.keys)) (queries_of old.keys) names told
  pub keys : new.keys ≡ kept_named old.keys (has names)
  pub count : removed ≡ told.removed
  pub memos : (handle : Handle) → memo_at new (ref_name handle)
      ≡ (if is_some (reads new.keys (ref_name handle)) then memo_at old (ref_name handle) else None)
