-- What each call answers, and the world that it leaves.
use Rattle.std.specs.Prelude.{ℕ, ◌-◌, Bool, true, false, List, [], ◌∷◌, ◌++◌, length, Option, Some, None, option_and_then, decimal, slice_set, string_bytes, Result, Ok, Err}
use Rattle.std.specs.FinMap as map
use Rattle.std.specs.Option.{option_map}
use Rattle.std.specs.Str.{bytes_eq}
use Rattle.ra_ap_intern.specs.Name.{Name}
use Rattle.ra_ap_intern.specs.Numbers.{number_value}
use Rattle.ra_ap_intern.specs.Presets.{generated_text}
use Rattle.ra_ap_intern.specs.Reach.{Entry, calls_of, kept_entries}
use Rattle.ra_ap_intern.specs.Refusal.{Refusal}
use Rattle.ra_ap_intern.specs.Sliced.{Sliced}
use Rattle.ra_ap_intern.specs.Slices.{slice_of, slice_in, slice_name_in, slice_back, due_slice}
use Rattle.ra_ap_intern.specs.State.{State, name_in, entry_at, reads, counts, counted_up, counted_down, interned, interned_name, interned_counted, given_back, due, due_at, due_interning, full, zero_count, any_count, freed, released}
use Rattle.ra_ap_intern.specs.Symbols.{Named, symbol_name, symbol_in, due_symbol, due_of, at_entry, text_of, count_of}
use Rattle.ra_ap_intern.specs.declared.gc.Collected.{Collected}
use Rattle.ra_ap_intern.specs.declared.symbol.symbols.TheConstants as sym
use Rattle.intern_calls.specs.Held.{Home, Held, seen, held_at, same}
use Rattle.intern_calls.specs.Held.Home.{counted, values, slices}
use Rattle.intern_calls.specs.Held.Held.{nothing, owned, reference, symbol}
use Rattle.intern_calls.specs.World.{Kinds, WorldState, entries, swept}
use Rattle.intern_calls.specs.declared.call.Call.{Call}
use Rattle.intern_calls.specs.declared.call.Call.TheVariants as call
use Rattle.intern_calls.specs.declared.call.Kind.{Kind}
use Rattle.intern_calls.specs.declared.call.Kind.TheVariants as kind
use Rattle.intern_calls.specs.declared.call.Which.{Which}
use Rattle.intern_calls.specs.declared.call.Which.TheVariants as which
use Rattle.intern_calls.specs.declared.reply.Back.{Back}
use Rattle.intern_calls.specs.declared.reply.Back.TheVariants as back
use Rattle.intern_calls.specs.declared.reply.Reply.{Reply}
use Rattle.intern_calls.specs.declared.reply.Reply.TheVariants.{Made, Done, Number, Read, Truth, Count, Uint, Collected as Gathered, Refused, WrongSlot}

-- what a call answers, and the world after it
pub record Answer (C G H I : Type 0) : Type 0 where
  pub reply : Reply C G H
  pub after : WorldState C G H I

-- what a collection tells that leaves the entries of these names
abbrev pub told : List Entry → List Name → Collected
told family names = record {
  visits = length names;
  mark_calls = calls_of family names;
  removed = length family - length (kept_entries family names);
}

module _ {C G H : Type 0} where
  -- what came back, if anything
  abbrev pub counted_back : Option C → Back C G H
  counted_back (Some v) = back.Counted v
  counted_back None = back.Nothing

  abbrev pub value_back : Option G → Back C G H
  value_back (Some v) = back.Value v
  value_back None = back.Nothing

  abbrev pub header_back : Option H → Back C G H
  header_back (Some v) = back.Header v
  header_back None = back.Nothing

  -- what a call replies that may be refused and gives nothing
  abbrev pub done_or_refused : Result Unit Refusal → Reply C G H
  done_or_refused (Ok _) = Done back.Nothing
  done_or_refused (Err why) = Refused why back.Nothing

  -- whether two handles are equal; those of two kinds are not compared
  abbrev pub truth : Option Bool → Reply C G H
  truth (Some b) = Truth b
  truth None = WrongSlot

module _ {C G H I : Type 0} where
  -- the world stays
  abbrev pub tells : WorldState C G H I → Reply C G H → Answer C G H I
  tells w r = record { reply = r; after = w }

  -- a handle goes into a new slot
  abbrev pub makes : WorldState C G H I → Held → Back C G H → Answer C G H I
  makes w h b = record {
    reply = Made (length w.slots) b;
    after = record w { slots = w.slots ++ h ∷ [] };
  }

  -- a slot is emptied
  abbrev pub emptied : WorldState C G H I → ℕ → WorldState C G H I
  emptied w n = record w { slots = slice_set w.slots n nothing }

  -- a call is refused for what is due, and changes nothing then
  abbrev pub unless : Option Refusal → Back C G H → WorldState C G H I → Answer C G H I
      → Answer C G H I
  unless (Some why) b w a = tells w (Refused why b)
  unless None b w a = a

  -- the refusal of a call that counts an entry up, or down
  abbrev pub due_up : WorldState C G H I → Home → Name → Option Refusal
  due_up w counted n = due w.counted n (full w.counted.top)
  due_up w values n = due w.values n (full w.values.top)
  due_up w slices n = due w.slices n (full w.slices.top)

  abbrev pub due_down : WorldState C G H I → Home → Name → Option Refusal
  due_down w counted n = due w.counted n zero_count
  due_down w values n = due w.values n zero_count
  due_down w slices n = due w.slices n zero_count

  -- with an entry counted up, or down
  abbrev pub up : WorldState C G H I → Home → Name → WorldState C G H I
  up w counted n = record w { counted = counted_up w.counted n.birth }
  up w values n = record w { values = counted_up w.values n.birth }
  up w slices n = record w { slices = counted_up w.slices n.birth }

  abbrev pub down : WorldState C G H I → Home → Name → WorldState C G H I
  down w counted n = record w { counted = counted_down w.counted n.birth }
  down w values n = record w { values = counted_down w.values n.birth }
  down w slices n = record w { slices = counted_down w.slices n.birth }

  -- with an owned handle given up, and what that frees
  abbrev pub given_up : WorldState C G H I → Home → Name → WorldState C G H I
  given_up w counted n = record w { counted = released false w.counted n.birth }
  given_up w values n = record w { values = released true w.values n.birth }
  given_up w slices n = record w { slices = counted_down w.slices n.birth }

  abbrev pub freed_by : WorldState C G H I → Home → Name → Back C G H
  freed_by w counted n = counted_back (freed false w.counted n.birth)
  freed_by w values n = value_back (freed true w.values n.birth)
  freed_by w slices n = back.Nothing

  abbrev pub count_in : WorldState C G H I → Home → Name → Option ℕ
  count_in w counted n = counts w.counted n
  count_in w values n = counts w.values n
  count_in w slices n = counts w.slices n

  -- a change of a symbol's text
  abbrev pub at_text : (State (List ℕ) → ℕ → State (List ℕ)) → WorldState C G H I → Named
      → WorldState C G H I
  at_text change w s = record w { table = at_entry change w.table s }

  -- each call on what its slot holds

  abbrev pub stores : (C → C → Bool) → WorldState C G H I → C → Answer C G H I
  stores eq w v = unless (due_interning eq w.counted v (full w.counted.top)) (back.Counted v) w
      (makes (record w { counted = interned_counted eq w.counted v })
      (owned counted (interned_name eq w.counted v))
      (counted_back (given_back eq w.counted v v)))

  abbrev pub stores_gc : (G → G → Bool) → WorldState C G H I → G → Answer C G H I
  stores_gc eq w v = unless (due_interning eq w.values v any_count) (back.Value v) w
      (makes (record w { values = (interned eq w.values v).state })
      (reference values (interned_name eq w.values v))
      (value_back (given_back eq w.values v v)))

  abbrev pub stores_slice : (Sliced H I → Sliced H I → Bool) → WorldState C G H I → H → List I
      → Answer C G H I
  stores_slice eq w header items = unless (due_slice eq w.slices header items)
      (back.Header header) w
      (makes (record w { slices = (slice_in eq w.slices header items).state })
      (reference slices (slice_name_in eq w.slices header items))
      (header_back (slice_back eq w.slices header items)))

  abbrev pub stores_text : WorldState C G H I → List ℕ → Answer C G H I
  stores_text w t = unless (due_symbol w.table t) back.Nothing w
      (makes (record w { table = (symbol_in w.table t).table })
      (symbol (symbol_in w.table t).symbol) back.Nothing)

  -- the handle of a birth, and the refusal of a call that makes it
  abbrev pub raw_held : WorldState C G H I → Kind → ℕ → Held
  raw_held w kind.Counted b = owned counted (name_in w.counted b)
  raw_held w kind.CountedRef b = reference counted (name_in w.counted b)
  raw_held w kind.Value b = owned values (name_in w.values b)
  raw_held w kind.ValueRef b = reference values (name_in w.values b)

  abbrev pub due_raw : WorldState C G H I → Kind → ℕ → Option Refusal
  due_raw w kind.Counted b = due_at (entry_at w.counted b) zero_count
  due_raw w kind.CountedRef b = due_at (entry_at w.counted b) any_count
  due_raw w kind.Value b = due_at (entry_at w.values b) zero_count
  due_raw w kind.ValueRef b = due_at (entry_at w.values b) any_count

  abbrev pub takes_over : WorldState C G H I → Kind → ℕ → Answer C G H I
  takes_over w kind b = unless (due_raw w kind b) back.Nothing w
      (makes w (raw_held w kind b) back.Nothing)

  abbrev pub refers : WorldState C G H I → Held → Answer C G H I
  refers w (owned h n) = makes w (reference h n) back.Nothing
  refers w _ = tells w WrongSlot

  abbrev pub clones : WorldState C G H I → Held → Answer C G H I
  clones w (owned h n) =
      unless (due_up w h n) back.Nothing w (makes (up w h n) (owned h n) back.Nothing)
  clones w (symbol s) = unless (due_of w.table s (full w.table.top)) back.Nothing w
      (makes (at_text counted_up w s) (symbol s) back.Nothing)
  clones w _ = tells w WrongSlot

  abbrev pub owns : WorldState C G H I → Held → Answer C G H I
  owns w (reference h n) =
      unless (due_up w h n) back.Nothing w (makes (up w h n) (owned h n) back.Nothing)
  owns w _ = tells w WrongSlot

  abbrev pub releases : WorldState C G H I → ℕ → Held → Answer C G H I
  releases w i (owned h n) = unless (due_down w h n) back.Nothing w
      (tells (emptied (given_up w h n) i) (Done (freed_by w h n)))
  releases w i (symbol s) = unless (due_of w.table s any_count) back.Nothing w
      (tells (emptied (at_text (released false) w s) i) (Done back.Nothing))
  releases w i _ = tells w WrongSlot

  abbrev pub decrements : WorldState C G H I → Held → Answer C G H I
  decrements w (reference h n) =
      unless (due_down w h n) back.Nothing w (tells (down w h n) (Done back.Nothing))
  decrements w (symbol s) = unless (due_of w.table s any_count) back.Nothing w
      (tells (at_text (released false) w s) (Done back.Nothing))
  decrements w _ = tells w WrongSlot

  abbrev pub tells_birth : WorldState C G H I → Held → Answer C G H I
  tells_birth w (reference counted n) = tells w (Number n.birth)
  tells_birth w (reference values n) = tells w (Number n.birth)
  tells_birth w _ = tells w WrongSlot

  abbrev pub reads_counted : (C → C → Bool) → WorldState C G H I → Held → C → Answer C G H I
  reads_counted eq w (owned counted n) v =
      tells w (Read (option_map (λ x. eq x v) (reads w.counted n)))
  reads_counted eq w (reference counted n) v =
      tells w (Read (option_map (λ x. eq x v) (reads w.counted n)))
  reads_counted eq w _ v = tells w WrongSlot

  abbrev pub reads_value : (G → G → Bool) → WorldState C G H I → Held → G → Answer C G H I
  reads_value eq w (owned values n) v =
      tells w (Read (option_map (λ x. eq x v) (reads w.values n)))
  reads_value eq w (reference values n) v =
      tells w (Read (option_map (λ x. eq x v) (reads w.values n)))
  reads_value eq w _ v = tells w WrongSlot

  abbrev pub reads_slice : (Sliced H I → Sliced H I → Bool) → WorldState C G H I → Held
      → Sliced H I → Answer C G H I
  reads_slice eq w (owned slices n) v =
      tells w (Read (option_map (λ x. eq x v) (reads w.slices n)))
  reads_slice eq w (reference slices n) v =
      tells w (Read (option_map (λ x. eq x v) (reads w.slices n)))
  reads_slice eq w _ v = tells w WrongSlot

  abbrev pub reads_text : WorldState C G H I → Held → List ℕ → Answer C G H I
  reads_text w (symbol s) t = tells w (Read (option_map (λ x. bytes_eq x t) (text_of w.table s)))
  reads_text w _ t = tells w WrongSlot

  abbrev pub tells_count : WorldState C G H I → Held → Answer C G H I
  tells_count w (owned h n) = tells w (Count (count_in w h n))
  tells_count w (reference h n) = tells w (Count (count_in w h n))
  tells_count w (symbol s) = tells w (Count (count_of w.table s))
  tells_count w nothing = tells w WrongSlot

  abbrev pub len_of : WorldState C G H I → Which → ℕ
  len_of w which.Counted = map.len w.counted.map
  len_of w which.Values = map.len w.values.map
  len_of w which.Slices = map.len w.slices.map
  len_of w which.Symbols = map.len w.table.map

  abbrev pub tells_uint : WorldState C G H I → Held → Answer C G H I
  tells_uint w (symbol s) = tells w (Uint (option_and_then number_value (text_of w.table s)))
  tells_uint w _ = tells w WrongSlot

  abbrev pub collects : Kinds C G H I → WorldState C G H I → List Name → Answer C G H I
  collects kinds w names =
      record { reply = Gathered (told (entries kinds w) names); after = swept w names }

module _ {C G S H I : Type 0} where
  -- what a call answers, where memory is ample; a collection leaves the entries of these names
  abbrev pub answer : Kinds C G H I → List Name → WorldState C G H I → Call C G S H I
      → Answer C G H I
  answer kinds names w (call.New v) = stores kinds.counted_eq w v
  answer kinds names w (call.NewGc v) = stores_gc kinds.value_eq w v
  answer kinds names w (call.FromHeaderAndSlice h v) = stores_slice kinds.slice_eq w h v.items
  answer kinds names w (call.Intern t) = stores_text w (string_bytes t)
  answer kinds names w (call.IntegerGet n) = stores_text w (decimal n)
  answer kinds names w (call.GeneratedGet n) = stores_text w (generated_text n)
  answer kinds names w call.Empty = makes w (symbol (symbol_name sym._empty_sym)) back.Nothing
  answer kinds names w (call.Put slot) = makes w (seen slot) back.Nothing
  answer kinds names w (call.FromRaw kind b) = takes_over w kind b
  answer kinds names w (call.AsRef n) = refers w (held_at w.slots n)
  answer kinds names w (call.Clone n) = clones w (held_at w.slots n)
  answer kinds names w (call.ToOwned n) = owns w (held_at w.slots n)
  answer kinds names w (call.Release n) = releases w n (held_at w.slots n)
  answer kinds names w (call.Decrement n) = decrements w (held_at w.slots n)
  answer kinds names w (call.AsRaw n) = tells_birth w (held_at w.slots n)
  answer kinds names w (call.ReadsCounted n v) =
      reads_counted kinds.counted_eq w (held_at w.slots n) v
  answer kinds names w (call.ReadsValue n v) = reads_value kinds.value_eq w (held_at w.slots n) v
  answer kinds names w (call.ReadsSlice n h v) =
      reads_slice kinds.slice_eq w (held_at w.slots n) (slice_of h v.items)
  answer kinds names w (call.ReadsText n t) = reads_text w (held_at w.slots n) (string_bytes t)
  answer kinds names w (call.Same n m) =
      tells w (truth (same (held_at w.slots n) (held_at w.slots m)))
  answer kinds names w (call.Count n) = tells_count w (held_at w.slots n)
  answer kinds names w (call.Len which) = tells w (Number (len_of w which))
  answer kinds names w (call.AsUint n) = tells_uint w (held_at w.slots n)
  answer kinds names w call.Collect = collects kinds w names
