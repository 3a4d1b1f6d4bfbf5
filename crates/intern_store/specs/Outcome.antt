-- What a call answers: when it is refused, and the state that it leaves.
use Rattle.std.specs.Prelude.{◌≡◌, ℕ, ◌+◌, ◌≤◌, Bool, Option, Some, None, IsTrue, Result, Ok, Err}
use Rattle.intern_store.specs.State.{State}
use Rattle.intern_store.specs.declared.refusal.Refusal.{Refusal}
use Rattle.intern_store.specs.declared.refusal.Refusal.TheVariants.{Foreign, Gone, CountZero, CountFull, NumbersUsedUp, OutOfMemory}
use Rattle.intern_store.specs.declared.refusal.Refused.{Refused}

-- a call is refused for what is due, and only then
abbrev pub Owes : {A : Type 0} → Result A Refusal → Option Refusal → Type 0
Owes (Ok _) due = due ≡ None
Owes (Err why) due = due ≡ Some why

-- the same of a call that hands back what it was given
abbrev pub OwesBack : {A O : Type 0} → Result A (Refused O) → Option Refusal → O → Type 0
OwesBack (Ok _) due given = due ≡ None
OwesBack (Err refused) due given = (due ≡ Some refused.why) × (refused.back ≡ given)

-- why a call that may want memory is refused: for what is due; where nothing is, for want of
-- memory, and this only where it needs some
abbrev pub IsWhy : Option Refusal → Bool → Refusal → Type 0
IsWhy (Some due) needs why = why ≡ due
IsWhy None needs why = (why ≡ OutOfMemory) × IsTrue needs

-- a call that may want memory is refused for that or for what is due, and only then
abbrev pub MayWant : {A : Type 0} → Result A Refusal → Option Refusal → Bool → Type 0
MayWant (Ok _) due needs = due ≡ None
MayWant (Err why) due needs = IsWhy due needs why

-- the same of a call that hands back what it was given
abbrev pub MayWantBack : {A O : Type 0} → Result A (Refused O) → Option Refusal → Bool → O → Type 0
MayWantBack (Ok _) due needs given = due ≡ None
MayWantBack (Err refused) due needs given = IsWhy due needs refused.why × (refused.back ≡ given)

-- the next state of a call that changes nothing where it is refused
abbrev pub Becomes : {A E V : Type 0} → Result A E → State V → State V → State V → Type 0
Becomes (Ok _) old new next = new ≡ next
Becomes (Err _) old new next = new ≡ old

-- of a number a call takes at most so many, and none where it is refused
abbrev pub Spends : {A E : Type 0} → Result A E → ℕ → ℕ → ℕ → Type 0
Spends (Ok _) old new most = old ≤ new + most
Spends (Err _) old new most = old ≤ new

-- the rank of a refusal in their order
abbrev pub refusal_number : Refusal → ℕ
refusal_number Foreign = 1
refusal_number Gone = 2
refusal_number CountZero = 3
refusal_number CountFull = 4
refusal_number NumbersUsedUp = 5
refusal_number OutOfMemory = 6
