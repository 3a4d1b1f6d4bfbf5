-- What holds along a run.
use Rattle.std.specs.Prelude.{◌≡◌, ◌↔◌, ◌⊎◌, ℕ, ◌<◌, ◌≤◌, Bool, true, List, ◌++◌, Some, None}
use Rattle.std.specs.List.{All, AllPairs}
use Rattle.ra_ap_intern.specs.Families.{IsCollection}
use Rattle.ra_ap_intern.specs.Name.{Name}
use Rattle.ra_ap_intern.specs.Reach.{starts}
use Rattle.ra_ap_intern.specs.State.{State, reads}
use Rattle.ra_ap_intern.specs.Symbols.{Named, text_of}
use Rattle.ra_ap_intern.specs.declared.gc.Collected.{Collected}
use Rattle.intern_calls.specs.World.{Kinds, WorldState, entries, swept}
use Rattle.intern_calls.specs.declared.call.Call.{Call}
use Rattle.intern_calls.specs.declared.call.Call.TheVariants as call
use Rattle.intern_calls.specs.declared.reply.Reply.{Reply}
use Rattle.intern_calls.specs.declared.reply.Reply.TheVariants.{Collected as Gathered}
use Rattle.intern_world.specs.Ledger.{Balances}
use Rattle.intern_world.specs.Run.{Turn, worlds, Runs}

module _ {V : Type 0} where
  -- names that read something in a storage are equal exactly if the values are
  abbrev pub TellsValues : (V → V → Bool) → State V → Type 0
  TellsValues eq s = (n m : Name) (v u : V) → reads s n ≡ Some v → reads s m ≡ Some u
      → (n ≡ m) ↔ (eq v u ≡ true)

  -- what a name reads it reads later or reads nothing; and a name whose birth was given, and that
  -- reads nothing, reads nothing later
  pub record KeepsReading (s later : State V) : Type 0 where
    pub given : (n : Name) (v : V) → reads s n ≡ Some v → n.birth < s.next
    pub value : (n : Name) (v : V) → reads s n ≡ Some v
        → (reads later n ≡ Some v) ⊎ (reads later n ≡ None)
    pub nothing : (n : Name) → n.birth < s.next → reads s n ≡ None → reads later n ≡ None
    pub births : s.next ≤ later.next

-- symbols that can be read are equal exactly if their texts are
abbrev pub TellsTexts : State (List ℕ) → Type 0
TellsTexts s = (a b : Named) (t u : List ℕ) → text_of s a ≡ Some t → text_of s b ≡ Some u
    → (a ≡ b) ↔ (t ≡ u)

module _ {C G H I : Type 0} where
  -- handles of one kind tell values, and symbols texts
  pub record TellsApart (kinds : Kinds C G H I) (w : WorldState C G H I) : Type 0 where
    pub counted : TellsValues kinds.counted_eq w.counted
    pub values : TellsValues kinds.value_eq w.values
    pub slices : TellsValues kinds.slice_eq w.slices
    pub symbols : TellsTexts w.table

  -- each name of each storage keeps what it reads
  pub record KeepsNames (w later : WorldState C G H I) : Type 0 where
    pub counted : KeepsReading w.counted later.counted
    pub values : KeepsReading w.values later.values
    pub slices : KeepsReading w.slices later.slices
    pub table : KeepsReading w.table later.table

module _ {C G S H I : Type 0} where
  -- where a turn is a collection that succeeds, it leaves what paths reach from counted entries
  abbrev pub Collects : Kinds C G H I → Turn C G S H I → Type 0
  Collects kinds t = (told : Collected) → t.call ≡ call.Collect → t.reply ≡ Gathered told
      → (names : List Name)
      × IsCollection (starts (entries kinds t.before)) (entries kinds t.before) names told
      × (t.after ≡ swept t.before names)

  -- what holds along turns from w: at each world, at each world and each later one, of each count
  -- after any of the turns, and at each collection
  pub record HoldsAlong (kinds : Kinds C G H I) (w : WorldState C G H I)
      (ts : List (Turn C G S H I)) : Type 0
    where
      pub tells : All (TellsApart kinds) (worlds w ts)
      pub keeps : AllPairs KeepsNames (worlds w ts)
      pub counts : (done rest : List (Turn C G S H I)) → ts ≡ done ++ rest → Balances w done
      pub collects : All (Collects kinds) ts

  -- these replies to these calls are those of a run, along which this holds
  pub record RunsAlong (kinds : Kinds C G H I) (w : WorldState C G H I)
      (calls : List (Call C G S H I)) (replies : List (Reply C G H)) (end : WorldState C G H I)
      : Type 0
    where
      pub run : Runs kinds w calls replies end
      pub holds : HoldsAlong kinds w run.turns
