-- What a storage holds, and the words of its contracts.
use Rattle.std.specs.Prelude.{List, map as list_map, ◌≡◌, ℕ, ◌+◌, ◌-◌, ◌<◌, ◌≤◌, Bool, true, not, if◌then◌else◌, ◌==◌, ◌&&◌, Option, Some, None, IsSome, is_none, option_and_then, refl}
use Rattle.std.specs.Option.{option_map, option_eq}
use Rattle.std.specs.List.{find}
use Rattle.std.specs.Coded.{Coded, code_by, coded×, coded_ℕ}
use Rattle.std.specs.Ordering.{nat_cmp}
use Rattle.std.specs.FinMap as map
use Rattle.intern_store.specs.Kept.{Kept, kept_code, recounted}
use Rattle.intern_store.specs.declared.names.Name.{Name}
use Rattle.intern_store.specs.declared.refusal.Refusal.{Refusal}
use Rattle.intern_store.specs.declared.refusal.Refusal.TheVariants.{Foreign, Gone, CountZero, CountFull, NumbersUsedUp}

-- the storage's number, the next birth, the limits of counts and of births, and the entries
pub record State (V : Type 0) : Type 0 where
  pub number : ℕ
  pub next : ℕ
  pub top : ℕ
  pub numbers : ℕ
  pub map : map.FinMap nat_cmp (Kept V)

abbrev pub state_code : {V : Type 0} → Coded V → Coded (State V)
state_code {V} code =
    code_by (ℕ × (ℕ × (ℕ × (ℕ × map.FinMap nat_cmp (Kept V)))))
    (coded× coded_ℕ (coded× coded_ℕ (coded× coded_ℕ (coded× coded_ℕ
    (map.code coded_ℕ (kept_code code))))))
    (λ s. (s.number, (s.next, (s.top, (s.numbers, s.map)))))
    (λ p. record {
      number = p.0;
      next = p.1.0;
      top = p.1.1.0;
      numbers = p.1.1.1.0;
      map = p.1.1.1.1;
    })
    (λ _. refl)

-- a state, how its values are hashed, how many more entries are taken with no request for memory,
-- and how much that lies outside of these
pub record Stocked (V H : Type 0) : Type 0 where
  pub state : State V
  pub hasher : H
  pub room : ℕ
  pub spare : ℕ

abbrev pub stocked_code : {V H : Type 0} → Coded V → Coded H → Coded (Stocked V H)
stocked_code {V} {H} v h =
    code_by (State V × (H × (ℕ × ℕ))) (coded× (state_code v) (coded× h (coded× coded_ℕ coded_ℕ)))
    (λ s. (s.state, (s.hasher, (s.room, s.spare))))
    (λ p. record { state = p.0; hasher = p.1.0; room = p.1.1.0; spare = p.1.1.1 }) (λ _. refl)

-- there is room for one more entry, with so much outside of it
abbrev pub HasRoom : {V H : Type 0} → Stocked V H → ℕ → Type 0
HasRoom s outside = (0 < s.room) × (outside ≤ s.spare)

-- every birth was given, no count is past the limit, and no two values are equal
pub record IsState {V : Type 0} (eq : V → V → Bool) (s : State V) : Type 0 where
  pub below : (b : ℕ) → IsSome (map.get s.map b) → b < s.next
  pub within : s.next ≤ s.numbers
  pub counts : (b : ℕ) (k : Kept V) → map.get s.map b ≡ Some k → k.count ≤ s.top
  pub apart : (b c : ℕ) (k l : Kept V) → map.get s.map b ≡ Some k → map.get s.map c ≡ Some l
      → eq k.value l.value ≡ true → b ≡ c
  pub counted : 0 < s.top

-- a state with no entry
abbrev pub new_state : {V : Type 0} → ℕ → ℕ → ℕ → State V
new_state number top numbers =
    record { number = number; next = 0; top = top; numbers = numbers; map = map.empty }

-- what a count decides: it can't be raised past the limit
abbrev pub full : ℕ → ℕ → Option Refusal
full top n = if n == top then Some CountFull else None

-- or lowered below zero
abbrev pub zero_count : ℕ → Option Refusal
zero_count n = if n == 0 then Some CountZero else None

-- or it decides nothing
abbrev pub any_count : ℕ → Option Refusal
any_count n = None

-- a birth, and the state in which a value is stored under it
pub record Stored (V : Type 0) : Type 0 where
  pub birth : ℕ
  pub state : State V

module _ {V : Type 0} where
  -- the name of a birth
  abbrev pub name_in : State V → ℕ → Name
  name_in s b = record { storage = s.number; birth = b }

  -- the entry of a birth
  abbrev pub entry_at : State V → ℕ → Option (Kept V)
  entry_at s b = map.get s.map b

  -- the birth was given, and has no entry
  pub record IsGone (s : State V) (b : ℕ) : Type 0 where
    pub given : b < s.next
    pub none : entry_at s b ≡ None

  -- the value that a name reads
  abbrev pub reads : State V → Name → Option V
  reads s n = if n.storage == s.number then option_map (λ k. k.value) (entry_at s n.birth) else None

  -- the count of the entry of a birth
  abbrev pub count_at : State V → ℕ → Option ℕ
  count_at s b = option_map (λ k. k.count) (entry_at s b)

  -- the count of the entry that a name names
  abbrev pub counts : State V → Name → Option ℕ
  counts s n = if n.storage == s.number then count_at s n.birth else None

  -- with another count of a birth that has an entry
  abbrev pub with_count : (ℕ → ℕ) → State V → ℕ → Option (Kept V) → State V
  with_count f s b o = record s { map = recounted f s.map b o }

  -- with the count of a birth one greater, or one less
  abbrev pub counted_up : State V → ℕ → State V
  counted_up s b = with_count (λ n. n + 1) s b (entry_at s b)

  abbrev pub counted_down : State V → ℕ → State V
  counted_down s b = with_count (λ n. n - 1) s b (entry_at s b)

  -- without the entry of a birth
  abbrev pub taken : State V → ℕ → State V
  taken s b = record s { map = map.remove s.map b }

  -- with the entries of marked births alone
  abbrev pub kept : State V → (ℕ → Bool) → State V
  kept s marked = record s { map = map.retain_keys s.map marked }

  -- with a new entry of this count
  abbrev pub added_with : ℕ → State V → V → State V
  added_with n s v = record s {
    next = s.next + 1;
    map = map.insert s.map s.next (record { value = v; count = n });
  }

  -- with a new entry that nothing counts
  abbrev pub added : State V → V → State V
  added s v = added_with 0 s v

  -- the first birth whose value passes a test
  abbrev pub birth_where : (V → Bool) → State V → Option ℕ
  birth_where test s = option_map (λ e. e.0) (find (λ e. test e.1.value) (map.entries s.map))

  -- the name of its entry
  abbrev pub name_where : (V → Bool) → State V → Option Name
  name_where test s = option_map (name_in s) (birth_where test s)

  -- the birth whose value equals v
  abbrev pub birth_of : (V → V → Bool) → State V → V → Option ℕ
  birth_of eq s v = birth_where (eq v) s

  -- the name of the entry whose value equals v
  abbrev pub name_of_value : (V → V → Bool) → State V → V → Option Name
  name_of_value eq s v = name_where (eq v) s

  -- the name of each entry, with its value
  abbrev pub named_values : State V → List (Name × V)
  named_values s = list_map (λ e. (name_in s e.0, e.1.value)) (map.entries s.map)

  -- whether no value equals v
  abbrev pub is_new : (V → V → Bool) → State V → V → Bool
  is_new eq s v = is_none (birth_of eq s v)

  -- this birth, or that of a new entry
  abbrev pub or_added : Option ℕ → State V → V → Stored V
  or_added (Some b) s v = record { birth = b; state = s }
  or_added None s v = record { birth = s.next; state = added s v }

  -- v stored, under the birth that it has or a new one
  abbrev pub interned : (V → V → Bool) → State V → V → Stored V
  interned eq s v = or_added (birth_of eq s v) s v

  -- the name under which v is stored
  abbrev pub interned_name : (V → V → Bool) → State V → V → Name
  interned_name eq s v = name_in s (interned eq s v).birth

  -- v stored, and counted once more
  abbrev pub interned_counted : (V → V → Bool) → State V → V → State V
  interned_counted eq s v = let i = interned eq s v in counted_up i.state i.birth

  -- the refusal of a call on an entry: where there is one, what its count decides
  abbrev pub due_at : Option (Kept V) → (ℕ → Option Refusal) → Option Refusal
  due_at None by_count = Some Gone
  due_at (Some k) by_count = by_count k.count

  -- the refusal of a call on a handle of this name
  abbrev pub due : State V → Name → (ℕ → Option Refusal) → Option Refusal
  due s n by_count =
      if n.storage == s.number then due_at (entry_at s n.birth) by_count else Some Foreign

  -- the refusal of a call that adds an entry, before want of memory
  abbrev pub due_adding : State V → Option Refusal
  due_adding s = if s.next == s.numbers then Some NumbersUsedUp else None

  -- the refusal of a call that interns the value of a birth, or a value without one
  abbrev pub due_found : Option ℕ → State V → (ℕ → Option Refusal) → Option Refusal
  due_found (Some b) s by_count = option_and_then by_count (count_at s b)
  due_found None s by_count = due_adding s

  -- the refusal of a call that counts the entry of a birth once more, if there is one
  abbrev pub due_found_full : Option ℕ → State V → Option Refusal
  due_found_full None s = None
  due_found_full (Some b) s = option_and_then (full s.top) (count_at s b)

  -- the entry of a birth counted once more, if there is one
  abbrev pub found_counted : Option ℕ → State V → State V
  found_counted None s = s
  found_counted (Some b) s = counted_up s b

  -- the refusal of a call that interns v, before want of memory: where v is stored what its count
  -- decides, else that births are used up
  abbrev pub due_interning : (V → V → Bool) → State V → V → (ℕ → Option Refusal) → Option Refusal
  due_interning eq s v by_count = due_found (birth_of eq s v) s by_count

  -- whether a release takes the entry of a birth out: where entries don't stay, one that is
  -- counted once
  abbrev pub is_last : Bool → State V → ℕ → Bool
  is_last stays s b = not stays && option_eq ◌==◌ (count_at s b) (Some 1)

  -- the value that a release frees
  abbrev pub freed : Bool → State V → ℕ → Option V
  freed stays s b = if is_last stays s b then option_map (λ k. k.value) (entry_at s b) else None

  -- the state that a release leaves
  abbrev pub released : Bool → State V → ℕ → State V
  released stays s b = if is_last stays s b then taken s b else counted_down s b

  -- what comes back of an offer of v: all of it where v is stored, and nothing where it isn't
  abbrev pub given_back : {O : Type 0} → (V → V → Bool) → State V → V → O → Option O
  given_back eq s v offer = option_map (λ b. offer) (birth_of eq s v)
