-- What the turns of a run add to counts, and what they take from them.
use Rattle.std.specs.Prelude.{◌≡◌, ℕ, ◌+◌, Bool, true, false, ◌&&◌, if◌then◌else◌, List, [], ◌∷◌, length}
use Rattle.std.specs.List.{filter}
use Rattle.ra_ap_intern.specs.Held.{times_counted}
use Rattle.ra_ap_intern.specs.Name.{Name}
use Rattle.ra_ap_intern.specs.Named.{same_name}
use Rattle.ra_ap_intern.specs.Symbols.Named.{preset, entry}
use Rattle.intern_calls.specs.Held.{Home, Held, held_at}
use Rattle.intern_calls.specs.Held.Home.{counted, values, slices}
use Rattle.intern_calls.specs.Held.Held.{nothing, owned, reference, symbol}
use Rattle.intern_calls.specs.World.{WorldState}
use Rattle.intern_calls.specs.declared.call.Call.{Call}
use Rattle.intern_calls.specs.declared.call.Call.TheVariants as call
use Rattle.intern_calls.specs.declared.call.Which.{Which}
use Rattle.intern_calls.specs.declared.call.Which.TheVariants as which
use Rattle.intern_calls.specs.declared.reply.Reply.{Reply}
use Rattle.intern_calls.specs.declared.reply.Reply.TheVariants.{Made, Done}
use Rattle.intern_world.specs.Run.{Turn}

-- whether a storage is this part of the world
abbrev pub is_part : Home → Which → Bool
is_part counted which.Counted = true
is_part values which.Values = true
is_part slices which.Slices = true
is_part _ _ = false

-- whether a part of the world is the table
abbrev pub is_table : Which → Bool
is_table which.Symbols = true
is_table _ = false

-- whether a handle names the entry of this name in a part of the world; a preset names none
abbrev pub names_entry : Which → Name → Held → Bool
names_entry part n nothing = false
names_entry part n (owned h m) = is_part h part && same_name n m
names_entry part n (reference h m) = is_part h part && same_name n m
names_entry part n (symbol (preset p)) = false
names_entry part n (symbol (entry m)) = is_table part && same_name n m

module _ {C G H I : Type 0} where
  -- how often an entry is counted
  abbrev pub count_in_part : WorldState C G H I → Which → Name → ℕ
  count_in_part w which.Counted n = times_counted w.counted n
  count_in_part w which.Values n = times_counted w.values n
  count_in_part w which.Slices n = times_counted w.slices n
  count_in_part w which.Symbols n = times_counted w.table n

-- the handle in the slot that a call has made
abbrev pub made : {C G H : Type 0} → Reply C G H → List Held → Held
made (Made k back) slots = held_at slots k
made _ slots = nothing

module _ {C G S H I : Type 0} where
  -- whether a call counts the handle that it makes: an owned handle of a counted value or of what a
  -- reference names, a second one, or a symbol
  abbrev pub counts_handle : Call C G S H I → Bool
  counts_handle (call.New v) = true
  counts_handle (call.Clone k) = true
  counts_handle (call.ToOwned k) = true
  counts_handle (call.Intern t) = true
  counts_handle (call.IntegerGet k) = true
  counts_handle (call.GeneratedGet k) = true
  counts_handle _ = false

  -- the handle that a turn counted, if any
  abbrev pub added : Turn C G S H I → Held
  added t = if counts_handle t.call then made t.reply t.after.slots else nothing

  -- the handle that a call gave up or took back, if any
  abbrev pub taken_by : Call C G S H I → Reply C G H → List Held → Held
  taken_by (call.Release k) (Done back) slots = held_at slots k
  taken_by (call.Decrement k) (Done back) slots = held_at slots k
  taken_by _ _ slots = nothing

  abbrev pub taken : Turn C G S H I → Held
  taken t = taken_by t.call t.reply t.before.slots

  -- how many of these turns count a handle of an entry, and how many take one back
  abbrev pub adds : Which → Name → List (Turn C G S H I) → ℕ
  adds part n ts = length (filter (λ t. names_entry part n (added t)) ts)

  abbrev pub takes : Which → Name → List (Turn C G S H I) → ℕ
  takes part n ts = length (filter (λ t. names_entry part n (taken t)) ts)

  -- the world that turns leave
  abbrev pub world_after : WorldState C G H I → List (Turn C G S H I) → WorldState C G H I
  world_after w [] = w
  world_after w (t ∷ ts) = world_after t.after ts

  -- the count of each entry is what it was, and what the turns added, less what they took
  abbrev pub Balances : WorldState C G H I → List (Turn C G S H I) → Type 0
  Balances w ts = (part : Which) (n : Name) →
      count_in_part (world_after w ts) part n + takes part n ts
      ≡ count_in_part w part n + adds part n ts
