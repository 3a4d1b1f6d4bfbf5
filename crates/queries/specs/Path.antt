-- The path of an evaluation.
use Rattle.std.specs.Prelude.{◌≡◌, ◌⊎◌, List, [], ◌∷◌, length, slice_get, Option, None, Some, All, Any}
use Rattle.ra_ap_intern.specs.Handle.{ref_name}
use Rattle.ra_ap_intern.specs.Name.{Name}
use Rattle.ra_ap_intern.specs.State.{State, reads}
use Rattle.queries.specs.declared.key.Key.{Key}
use Rattle.queries.specs.declared.path.Frame.{Frame}
use Rattle.queries.specs.declared.value.Answer.{Answer}
use Rattle.queries.specs.declared.value.Value.{Value}
use Rattle.queries.specs.Evaluation.{Evaluates, IsRight, LeadsToCycle}
use Rattle.queries.specs.Sheet.{Formulas, reads_of}

-- a query reads this one next
abbrev pub WaitsFor : Frame → Key → Type 0
WaitsFor frame key = slice_get frame.wants.items (length frame.values.items) ≡ Some key

-- a query of this name waits: the one that reads, or one on the path
abbrev pub IsWaiting : Name → Frame → List Frame → Type 0
IsWaiting name top frames =
    (ref_name top.handle ≡ name) ⊎ Any (λ frame. ref_name frame.handle ≡ name) frames

module _ (sheet : Formulas) where
  -- the values of the first of these queries
  abbrev pub AreValues : List Key → List Value → Type 0
  AreValues keys [] = Unit {0}
  AreValues [] (value ∷ values) = ⊥
  AreValues (key ∷ keys) (value ∷ values) = Evaluates sheet key value × AreValues keys values

  -- a query that has read right values so far
  pub record IsFrame (keys : State Key) (frame : Frame) : Type 0 where
    pub stored : reads keys (ref_name frame.handle) ≡ Some frame.key
    pub wants : frame.wants.items ≡ reads_of sheet frame.key
    pub values : AreValues frame.wants.items frame.values.items

  -- each query waits for the one behind it, from the first to the last
  abbrev pub Chain : Key → List Frame → Key → Type 0
  Chain first [] last = first ≡ last
  Chain first (frame ∷ frames) last =
      (first ≡ frame.key) × (next : Key) × WaitsFor frame next × Chain next frames last

  -- the queries that wait, up to this one
  pub record IsPath (keys : State Key) (first : Key) (frames : List Frame) (last : Key) : Type 0 where
    pub chain : Chain first frames last
    pub each : All (IsFrame keys) frames

  -- how an evaluation goes on: with this query, or by the answer to the first
  abbrev pub GoesOn : State Key → Key → Frame → List Frame → Option Answer → Type 0
  GoesOn keys first top frames None = IsFrame keys top × IsPath keys first frames top.key
  GoesOn keys first top frames (Some answer) = IsRight sheet first answer

  -- a query that leads to this cycle
  pub record IsStuck (keys : State Key) (through : Key) (frame : Frame) : Type 0 where
    pub stored : reads keys (ref_name frame.handle) ≡ Some frame.key
    pub cyclic : LeadsToCycle sheet frame.key through
