-- Runs over lists of calls.
use Rattle.std.specs.Prelude.{◌≡◌, ℕ, Bool, true, List, [], ◌∷◌, map}
use Rattle.std.specs.Str.{bytes_eq}
use Rattle.ra_ap_intern.specs.Families.{are_distinct}
use Rattle.ra_ap_intern.specs.State.{IsState, new_state}
use Rattle.ra_ap_intern.specs.Symbols.{IsTable}
use Rattle.intern_calls.specs.Step.{Step}
use Rattle.intern_calls.specs.World.{Kinds, WorldState, numbers_of}
use Rattle.intern_calls.specs.declared.call.Call.{Call}
use Rattle.intern_calls.specs.declared.reply.Reply.{Reply}
use Rattle.intern_world.specs.declared.world.Numbers.{Numbers}

-- whether four numbers are apart
abbrev pub are_apart : Numbers → Bool
are_apart n = are_distinct (n.counted ∷ n.values ∷ n.slices ∷ n.table ∷ [])

-- a call with its reply, and the worlds before and after it
pub record Turn (C G S H I : Type 0) : Type 0 where
  pub before : WorldState C G H I
  pub call : Call C G S H I
  pub reply : Reply C G H
  pub after : WorldState C G H I

module _ {C G H I : Type 0} where
  -- new storages and a new table, with these numbers and limits, and no slot
  abbrev pub new_world : Numbers → ℕ → ℕ → WorldState C G H I
  new_world n top numbers = record {
    counted = new_state n.counted top numbers;
    values = new_state n.values top numbers;
    slices = new_state n.slices top numbers;
    table = new_state n.table top numbers;
    slots = [];
  }

  -- each storage, and the table, is in a state that calls can leave it in, and no two numbers are
  -- the same
  pub record IsWorld (kinds : Kinds C G H I) (w : WorldState C G H I) : Type 0 where
    pub counted : IsState kinds.counted_eq w.counted
    pub values : IsState kinds.value_eq w.values
    pub slices : IsState kinds.slice_eq w.slices
    pub table : IsState bytes_eq w.table
    pub texts : IsTable w.table
    pub distinct : are_distinct (numbers_of w) ≡ true

module _ {C G S H I : Type 0} where
  -- a run from a world to an end: steps, each from the world that the one before it left, where
  -- `IsWorld` holds of each
  abbrev pub IsRun : Kinds C G H I → WorldState C G H I → List (Turn C G S H I)
      → WorldState C G H I → Type 0
  IsRun kinds w [] end = (w ≡ end) × IsWorld kinds w
  IsRun kinds w (t ∷ ts) end = (w ≡ t.before) × IsWorld kinds w
      × Step kinds t.before t.call t.reply t.after × IsRun kinds t.after ts end

  -- the worlds of a run, the first one first
  abbrev pub worlds : WorldState C G H I → List (Turn C G S H I) → List (WorldState C G H I)
  worlds w ts = w ∷ map (λ t. t.after) ts

  -- these replies to these calls are those of a run
  pub record Runs (kinds : Kinds C G H I) (w : WorldState C G H I) (calls : List (Call C G S H I))
      (replies : List (Reply C G H)) (end : WorldState C G H I) : Type 0
    where
      pub turns : List (Turn C G S H I)
      pub run : IsRun kinds w turns end
      pub calls_are : map (λ t. t.call) turns ≡ calls
      pub replies_are : map (λ t. t.reply) turns ≡ replies
