-- What a run of the program did to the bytes of its reader and its writer, where those tell them.
use Rattle.std.specs.Prelude.{◌≡◌, ℕ, List, ◌++◌, Option, Bool, true, false, Result, Ok, Err}
use Rattle.std.specs.Io.KnownBytes.{Consumes, IsAtEnd, Appends}
use Rattle.intern_run.specs.declared.fault.Fault.{Fault}
use Rattle.intern_run.specs.declared.fault.Fault.TheVariants.{Input, NotText, OutOfMemory, Output}

-- the reader gave t from `old` on, and then its end
abbrev pub ReadsAll : Option (List ℕ) → Option (List ℕ) → List ℕ → Type 0
ReadsAll old new t = Consumes old new t × IsAtEnd new

-- the writer took a beginning of bs
abbrev pub AppendsBeginning : Option (List ℕ) → Option (List ℕ) → List ℕ → Type 0
AppendsBeginning old new bs =
    (sent : List ℕ) × (rest : List ℕ) × (bs ≡ sent ++ rest) × Appends old new sent

-- a fact for each outcome of a run that read all its input: it went well, the input is no text,
-- the output failed
abbrev pub MatchServed : {X : Type 0} → Result X Fault → Type 0 → Type 0 → Type 0 → Type 0
MatchServed (Ok _) well no_text cut_short = well
MatchServed (Err Input) well no_text cut_short = Unit {0}
MatchServed (Err NotText) well no_text cut_short = no_text
MatchServed (Err OutOfMemory) well no_text cut_short = Unit {0}
MatchServed (Err Output) well no_text cut_short = cut_short

-- the answer is the fault `Input`
abbrev pub is_input_fault : {X : Type 0} → Result X Fault → Bool
is_input_fault (Ok _) = false
is_input_fault (Err Input) = true
is_input_fault (Err NotText) = false
is_input_fault (Err OutOfMemory) = false
is_input_fault (Err Output) = false

-- the answer is the fault `Output`
abbrev pub is_output_fault : {X : Type 0} → Result X Fault → Bool
is_output_fault (Ok _) = false
is_output_fault (Err Input) = false
is_output_fault (Err NotText) = false
is_output_fault (Err OutOfMemory) = false
is_output_fault (Err Output) = true

-- the exit status of a run
abbrev pub exit_status : {X : Type 0} → Result X Fault → ℕ
exit_status (Ok _) = 0
exit_status (Err _) = 2
