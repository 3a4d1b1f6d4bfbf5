-- The step of a call.
use Rattle.std.specs.Prelude.{◌≡◌, ◌⊎◌, ℕ, Bool, ◌&&◌, if◌then◌else◌, List, [], Option, Some, None, is_none, is_some, decimal, string_bytes}
use Rattle.std.specs.List.{list_all, filter_map}
use Rattle.ra_ap_intern.specs.Name.{Name}
use Rattle.ra_ap_intern.specs.Presets.{generated_text}
use Rattle.ra_ap_intern.specs.Reach.{IsReachedSet, starts, starts_with}
use Rattle.ra_ap_intern.specs.Refusal.{Refusal}
use Rattle.ra_ap_intern.specs.Refusal.TheVariants.{OutOfMemory}
use Rattle.ra_ap_intern.specs.Sliced.{Sliced}
use Rattle.ra_ap_intern.specs.Slices.{due_slice, is_new_slice}
use Rattle.ra_ap_intern.specs.State.{is_new, due_interning, full, any_count}
use Rattle.ra_ap_intern.specs.Symbols.{due_symbol, is_new_text}
use Rattle.intern_calls.specs.Answer.{Answer, answer, collects, tells}
use Rattle.intern_calls.specs.Held.{Held, held_at}
use Rattle.intern_calls.specs.Held.Home.{values, slices}
use Rattle.intern_calls.specs.Held.Held.{owned, reference}
use Rattle.intern_calls.specs.World.{Kinds, WorldState, entries}
use Rattle.intern_calls.specs.declared.call.Call.{Call}
use Rattle.intern_calls.specs.declared.call.Call.TheVariants as call
use Rattle.intern_calls.specs.declared.reply.Back.{Back}
use Rattle.intern_calls.specs.declared.reply.Back.TheVariants as back
use Rattle.intern_calls.specs.declared.reply.Reply.{Reply}
use Rattle.intern_calls.specs.declared.reply.Reply.TheVariants.{Refused, WrongSlot}

module _ {C G H : Type 0} where
  -- what comes back of a call that wants memory: where nothing is due and it adds an entry
  abbrev pub where_new : Option Refusal → Bool → Back C G H → Option (Back C G H)
  where_new due new given = if is_none due && new then Some given else None

module _ {C G H I : Type 0} where
  -- the reply and the world after are these
  pub record Says (a : Answer C G H I) (reply : Reply C G H) (after : WorldState C G H I)
      : Type 0
    where
      pub reply_is : reply ≡ a.reply
      pub after_is : after ≡ a.after

  -- a call was refused for want of memory, where it wanted some, and changed nothing
  pub record Lacks (wanted : Option (Back C G H)) (w : WorldState C G H I)
      (reply : Reply C G H) (after : WorldState C G H I) : Type 0
    where
      pub given : Back C G H
      pub wanted_is : wanted ≡ Some given
      pub reply_is : reply ≡ Refused OutOfMemory given
      pub after_is : after ≡ w

  -- what comes back where there is no memory, of each call that interns; none where it wants none
  abbrev pub counted_wanted : (C → C → Bool) → WorldState C G H I → C → Option (Back C G H)
  counted_wanted eq w v = where_new (due_interning eq w.counted v (full w.counted.top))
      (is_new eq w.counted v) (back.Counted v)

  abbrev pub value_wanted : (G → G → Bool) → WorldState C G H I → G → Option (Back C G H)
  value_wanted eq w v =
      where_new (due_interning eq w.values v any_count) (is_new eq w.values v) (back.Value v)

  abbrev pub slice_wanted : (Sliced H I → Sliced H I → Bool) → WorldState C G H I → H → List I
      → Option (Back C G H)
  slice_wanted eq w header items = where_new (due_slice eq w.slices header items)
      (is_new_slice eq w.slices header items) (back.Header header)

  abbrev pub text_wanted : WorldState C G H I → List ℕ → Option (Back C G H)
  text_wanted w t = where_new (due_symbol w.table t) (is_new_text w.table t) back.Nothing

module _ {C G S H I : Type 0} where
  -- the calls that want memory, and what comes back of each where there is none
  abbrev pub wants_memory : Kinds C G H I → WorldState C G H I → Call C G S H I
      → Option (Back C G H)
  wants_memory kinds w (call.New v) = counted_wanted kinds.counted_eq w v
  wants_memory kinds w (call.NewGc v) = value_wanted kinds.value_eq w v
  wants_memory kinds w (call.FromHeaderAndSlice h v) = slice_wanted kinds.slice_eq w h v.items
  wants_memory kinds w (call.Intern t) = text_wanted w (string_bytes t)
  wants_memory kinds w (call.IntegerGet n) = text_wanted w (decimal n)
  wants_memory kinds w (call.GeneratedGet n) = text_wanted w (generated_text n)
  wants_memory kinds w call.Collect = Some back.Nothing
  wants_memory kinds w _ = None

  -- the names that a collection leaves: those that paths reach from a counted entry
  abbrev pub Reaches : Kinds C G H I → WorldState C G H I → Call C G S H I → List Name → Type 0
  Reaches kinds w call.Collect names =
      IsReachedSet (starts (entries kinds w)) (entries kinds w) names
  Reaches kinds w _ names = names ≡ []

  -- a call is answered, with the names that it leaves where it is a collection
  pub record Answers (kinds : Kinds C G H I) (w : WorldState C G H I) (c : Call C G S H I)
      (reply : Reply C G H) (after : WorldState C G H I) : Type 0
    where
      pub names : List Name
      pub reached : Reaches kinds w c names
      pub says : Says (answer kinds names w c) reply after

  -- from w, a call may be replied to so, and leave the world after
  abbrev pub Step : Kinds C G H I → WorldState C G H I → Call C G S H I → Reply C G H
      → WorldState C G H I → Type 0
  Step kinds w c reply after =
      Answers kinds w c reply after ⊎ Lacks (wants_memory kinds w c) w reply after

-- the name of a handle of a collected entry
abbrev pub root_in : Held → Option Name
root_in (owned values n) = Some n
root_in (reference values n) = Some n
root_in (owned slices n) = Some n
root_in (reference slices n) = Some n
root_in _ = None

-- the name of a handle of a collected entry, in the slot of a number
abbrev pub root_at : List Held → ℕ → Option Name
root_at slots n = root_in (held_at slots n)

-- the names in these slots, where all of them hold such handles
abbrev pub roots_in : List Held → List ℕ → Option (List Name)
roots_in slots ns = if list_all (λ n. is_some (root_at slots n)) ns
    then Some (filter_map (root_at slots) ns) else None

module _ {C G H I : Type 0} where
  -- a collection from where paths begin
  pub record Gathers (kinds : Kinds C G H I) (w : WorldState C G H I) (begins : Name → Bool)
      (reply : Reply C G H) (after : WorldState C G H I) : Type 0
    where
      pub names : List Name
      pub reached : IsReachedSet begins (entries kinds w) names
      pub says : Says (collects kinds w names) reply after

  -- a collection that begins also at the entries of slots
  abbrev pub Keeps : Kinds C G H I → WorldState C G H I → Option (List Name) → Reply C G H
      → WorldState C G H I → Type 0
  Keeps kinds w None reply after = Says (tells w WrongSlot) reply after
  Keeps kinds w (Some roots) reply after =
      Gathers kinds w (starts_with roots (entries kinds w)) reply after
      ⊎ Lacks (Some back.Nothing) w reply after
