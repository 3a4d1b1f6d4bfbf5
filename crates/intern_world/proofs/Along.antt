-- Each step leaves later states.
use Rattle.std.proofs.Common.{◌≡◌, ℕ, Bool, true, false, inl, inr, List, [], ◌∷◌, Option, Some, None, ap, ◌∙◌}
use Rattle.std.specs.Str.{bytes_eq}
use Rattle.ra_ap_intern.proofs.CallerLemmas.{Later, later_itself, later_later, counted_up_later, counted_down_later, kept_later, interned_later, interned_counted_later, released_later}
use Rattle.ra_ap_intern.specs.Names.{has}
use Rattle.ra_ap_intern.specs.Families.{are_distinct}
use Rattle.ra_ap_intern.specs.Name.{Name}
use Rattle.ra_ap_intern.specs.Presets.{place_of}
use Rattle.ra_ap_intern.specs.Refusal.{Refusal}
use Rattle.ra_ap_intern.specs.Slices.{slice_of}
use Rattle.ra_ap_intern.specs.Sliced.{Sliced}
use Rattle.ra_ap_intern.specs.State.{State, name_in, counted_up, released}
use Rattle.ra_ap_intern.specs.Symbols.{Named, symbol_at, symbol_in}
use Rattle.ra_ap_intern.specs.Symbols.Named.{preset, entry}
use Rattle.intern_calls.specs.Answer.{Answer, unless, up, down, given_up, at_text, answer, refers, clones, owns, releases, decrements, tells_birth, reads_counted, reads_value, reads_slice, reads_text, tells_count, tells_uint, stores_text}
use Rattle.intern_calls.specs.Held.{Home, Held, held_at}
use Rattle.intern_calls.specs.Held.Home.{counted, values, slices}
use Rattle.intern_calls.specs.Held.Held.{nothing, owned, reference, symbol}
use Rattle.intern_calls.specs.Step.{Step, Keeps}
use Rattle.intern_calls.specs.World.{Kinds, WorldState, numbers_of, swept}
use Rattle.intern_calls.specs.declared.call.Call.{Call}
use Rattle.intern_calls.specs.declared.call.Call.TheVariants as call
use Rattle.intern_calls.specs.declared.reply.Back.{Back}
use Rattle.intern_calls.specs.declared.reply.Reply.{Reply}

symbol_later : (s : State (List ℕ)) (t : List ℕ) → Later s (symbol_in s t).table
symbol_later s t = go (place_of t)
  where
    go : (o : Option ℕ) → Later s (symbol_at o s t).table
    go (Some p) = later_itself s
    go None = interned_counted_later bytes_eq s t

module _ {C G H I : Type 0} where
  pub record Laters (w x : WorldState C G H I) : Type 0 where
    pub counted : Later w.counted x.counted
    pub values : Later w.values x.values
    pub slices : Later w.slices x.slices
    pub table : Later w.table x.table

  pub stays : (w : WorldState C G H I) → Laters w w
  stays w = record {
    counted = later_itself w.counted;
    values = later_itself w.values;
    slices = later_itself w.slices;
    table = later_itself w.table;
  }

  pub laters : (w x y : WorldState C G H I) → Laters w x → Laters x y → Laters w y
  laters w x y p q = record {
    counted = later_later w.counted x.counted y.counted p.counted q.counted;
    values = later_later w.values x.values y.values p.values q.values;
    slices = later_later w.slices x.slices y.slices p.slices q.slices;
    table = later_later w.table x.table y.table p.table q.table;
  }

  -- no number changes
  pub same_numbers : (w x : WorldState C G H I) → Laters w x → numbers_of x ≡ numbers_of w
  same_numbers w x l = λ i.
      l.counted.number i ∷ l.values.number i ∷ l.slices.number i ∷ l.table.number i ∷ []

  abbrev Goes : WorldState C G H I → Answer C G H I → Type 0
  Goes w a = Laters w a.after

  unless_goes : (o : Option Refusal) (b : Back C G H) (w : WorldState C G H I)
      (a : Answer C G H I) → Goes w a → Goes w (unless o b w a)
  unless_goes None b w a h = h
  unless_goes (Some why) b w a h = stays w

  -- the slots may be others
  widen : (w x : WorldState C G H I) (l : List Held) → Laters w x
      → Laters w (record x { slots = l })
  widen w x l h =
      record { counted = h.counted; values = h.values; slices = h.slices; table = h.table }

  in_counted : (w : WorldState C G H I) (s : State C) → Later w.counted s
      → Laters w (record w { counted = s })
  in_counted w s l = record {
    counted = l;
    values = later_itself w.values;
    slices = later_itself w.slices;
    table = later_itself w.table;
  }

  in_values : (w : WorldState C G H I) (s : State G) → Later w.values s
      → Laters w (record w { values = s })
  in_values w s l = record {
    counted = later_itself w.counted;
    values = l;
    slices = later_itself w.slices;
    table = later_itself w.table;
  }

  in_slices : (w : WorldState C G H I) (s : State (Sliced H I)) → Later w.slices s
      → Laters w (record w { slices = s })
  in_slices w s l = record {
    counted = later_itself w.counted;
    values = later_itself w.values;
    slices = l;
    table = later_itself w.table;
  }

  in_table : (w : WorldState C G H I) (s : State (List ℕ)) → Later w.table s
      → Laters w (record w { table = s })
  in_table w s l = record {
    counted = later_itself w.counted;
    values = later_itself w.values;
    slices = later_itself w.slices;
    table = l;
  }

  ups : (w : WorldState C G H I) (h : Home) (n : Name) → Laters w (up w h n)
  ups w counted n = in_counted w _ (counted_up_later w.counted n.birth)
  ups w values n = in_values w _ (counted_up_later w.values n.birth)
  ups w slices n = in_slices w _ (counted_up_later w.slices n.birth)

  downs : (w : WorldState C G H I) (h : Home) (n : Name) → Laters w (down w h n)
  downs w counted n = in_counted w _ (counted_down_later w.counted n.birth)
  downs w values n = in_values w _ (counted_down_later w.values n.birth)
  downs w slices n = in_slices w _ (counted_down_later w.slices n.birth)

  gives_up : (w : WorldState C G H I) (h : Home) (n : Name) → Laters w (given_up w h n)
  gives_up w counted n = in_counted w _ (released_later false w.counted n.birth)
  gives_up w values n = in_values w _ (released_later true w.values n.birth)
  gives_up w slices n = in_slices w _ (counted_down_later w.slices n.birth)

  text_up : (w : WorldState C G H I) (s : Named) → Laters w (at_text counted_up w s)
  text_up w (preset p) = stays w
  text_up w (entry n) = in_table w _ (counted_up_later w.table n.birth)

  text_down : (w : WorldState C G H I) (s : Named) → Laters w (at_text (released false) w s)
  text_down w (preset p) = stays w
  text_down w (entry n) = in_table w _ (released_later false w.table n.birth)

  texts : (w : WorldState C G H I) (t : List ℕ) → Goes w (stores_text w t)
  texts w t = unless_goes _ _ w _
      (widen w (record w { table = (symbol_in w.table t).table }) _
      (in_table w _ (symbol_later w.table t)))

  of_refers : (w : WorldState C G H I) (h : Held) → Goes w (refers w h)
  of_refers w nothing = stays w
  of_refers w (owned h n) = widen w w _ (stays w)
  of_refers w (reference h n) = stays w
  of_refers w (symbol s) = stays w

  of_clones : (w : WorldState C G H I) (h : Held) → Goes w (clones w h)
  of_clones w nothing = stays w
  of_clones w (owned h n) = unless_goes _ _ w _ (widen w (up w h n) _ (ups w h n))
  of_clones w (reference h n) = stays w
  of_clones w (symbol s) =
      unless_goes _ _ w _ (widen w (at_text counted_up w s) _ (text_up w s))

  of_owns : (w : WorldState C G H I) (h : Held) → Goes w (owns w h)
  of_owns w nothing = stays w
  of_owns w (owned h n) = stays w
  of_owns w (reference h n) = unless_goes _ _ w _ (widen w (up w h n) _ (ups w h n))
  of_owns w (symbol s) = stays w

  of_releases : (w : WorldState C G H I) (i : ℕ) (h : Held) → Goes w (releases w i h)
  of_releases w i nothing = stays w
  of_releases w i (owned h n) =
      unless_goes _ _ w _ (widen w (given_up w h n) _ (gives_up w h n))
  of_releases w i (reference h n) = stays w
  of_releases w i (symbol s) =
      unless_goes _ _ w _ (widen w (at_text (released false) w s) _ (text_down w s))

  of_decrements : (w : WorldState C G H I) (h : Held) → Goes w (decrements w h)
  of_decrements w nothing = stays w
  of_decrements w (owned h n) = stays w
  of_decrements w (reference h n) = unless_goes _ _ w _ (downs w h n)
  of_decrements w (symbol s) = unless_goes _ _ w _ (text_down w s)

  of_birth : (w : WorldState C G H I) (h : Held) → Goes w (tells_birth w h)
  of_birth w nothing = stays w
  of_birth w (owned h n) = stays w
  of_birth w (reference counted n) = stays w
  of_birth w (reference values n) = stays w
  of_birth w (reference slices n) = stays w
  of_birth w (symbol s) = stays w

  of_counted : (eq : C → C → Bool) (w : WorldState C G H I) (h : Held) (v : C)
      → Goes w (reads_counted eq w h v)
  of_counted eq w nothing v = stays w
  of_counted eq w (owned counted n) v = stays w
  of_counted eq w (owned values n) v = stays w
  of_counted eq w (owned slices n) v = stays w
  of_counted eq w (reference counted n) v = stays w
  of_counted eq w (reference values n) v = stays w
  of_counted eq w (reference slices n) v = stays w
  of_counted eq w (symbol s) v = stays w

  of_value : (eq : G → G → Bool) (w : WorldState C G H I) (h : Held) (v : G)
      → Goes w (reads_value eq w h v)
  of_value eq w nothing v = stays w
  of_value eq w (owned counted n) v = stays w
  of_value eq w (owned values n) v = stays w
  of_value eq w (owned slices n) v = stays w
  of_value eq w (reference counted n) v = stays w
  of_value eq w (reference values n) v = stays w
  of_value eq w (reference slices n) v = stays w
  of_value eq w (symbol s) v = stays w

  of_slice : (eq : Sliced H I → Sliced H I → Bool) (w : WorldState C G H I) (h : Held)
      (v : Sliced H I) → Goes w (reads_slice eq w h v)
  of_slice eq w nothing v = stays w
  of_slice eq w (owned counted n) v = stays w
  of_slice eq w (owned values n) v = stays w
  of_slice eq w (owned slices n) v = stays w
  of_slice eq w (reference counted n) v = stays w
  of_slice eq w (reference values n) v = stays w
  of_slice eq w (reference slices n) v = stays w
  of_slice eq w (symbol s) v = stays w

  of_text : (w : WorldState C G H I) (h : Held) (t : List ℕ) → Goes w (reads_text w h t)
  of_text w nothing t = stays w
  of_text w (owned h n) t = stays w
  of_text w (reference h n) t = stays w
  of_text w (symbol s) t = stays w

  of_count : (w : WorldState C G H I) (h : Held) → Goes w (tells_count w h)
  of_count w nothing = stays w
  of_count w (owned h n) = stays w
  of_count w (reference h n) = stays w
  of_count w (symbol s) = stays w

  of_uint : (w : WorldState C G H I) (h : Held) → Goes w (tells_uint w h)
  of_uint w nothing = stays w
  of_uint w (owned h n) = stays w
  of_uint w (reference h n) = stays w
  of_uint w (symbol s) = stays w

  sweeps : (w : WorldState C G H I) (names : List Name) → Laters w (swept w names)
  sweeps w names = record {
    counted = later_itself w.counted;
    values = kept_later w.values (λ b. has names (name_in w.values b));
    slices = kept_later w.slices (λ b. has names (name_in w.slices b));
    table = later_itself w.table;
  }

  -- a collection that begins also at handles
  pub keeping_later : (kinds : Kinds C G H I) (w : WorldState C G H I)
      (roots : Option (List Name)) (r : Reply C G H) (x : WorldState C G H I)
      → Keeps kinds w roots r x → Laters w x
  keeping_later kinds w None r x says = rw says.after_is (stays w)
  keeping_later kinds w (Some roots) r x (inl g) = rw g.says.after_is (sweeps w g.names)
  keeping_later kinds w (Some roots) r x (inr l) = rw l.after_is (stays w)

module _ {C G S H I : Type 0} where
  pub answer_later : (kinds : Kinds C G H I) (names : List Name) (w : WorldState C G H I)
      (c : Call C G S H I) → Laters w (answer kinds names w c).after
  answer_later kinds names w (call.New v) = unless_goes _ _ w _
      (widen w (record w { counted = _ }) _ (in_counted w _ (interned_counted_later kinds.counted_eq w.counted v)))
  answer_later kinds names w (call.NewGc v) = unless_goes _ _ w _
      (widen w (record w { values = _ }) _ (in_values w _ (interned_later kinds.value_eq w.values v)))
  answer_later kinds names w (call.FromHeaderAndSlice h v) = unless_goes _ _ w _
      (widen w (record w { slices = _ }) _ (in_slices w _ (interned_later kinds.slice_eq w.slices (slice_of h v.items))))
  answer_later kinds names w (call.Intern t) = texts w _
  answer_later kinds names w (call.IntegerGet n) = texts w _
  answer_later kinds names w (call.GeneratedGet n) = texts w _
  answer_later kinds names w call.Empty = widen w w _ (stays w)
  answer_later kinds names w (call.Put slot) = widen w w _ (stays w)
  answer_later kinds names w (call.FromRaw kind b) = unless_goes _ _ w _ (widen w w _ (stays w))
  answer_later kinds names w (call.AsRef n) = of_refers w (held_at w.slots n)
  answer_later kinds names w (call.Clone n) = of_clones w (held_at w.slots n)
  answer_later kinds names w (call.ToOwned n) = of_owns w (held_at w.slots n)
  answer_later kinds names w (call.Release n) = of_releases w n (held_at w.slots n)
  answer_later kinds names w (call.Decrement n) = of_decrements w (held_at w.slots n)
  answer_later kinds names w (call.AsRaw n) = of_birth w (held_at w.slots n)
  answer_later kinds names w (call.ReadsCounted n v) =
      of_counted kinds.counted_eq w (held_at w.slots n) v
  answer_later kinds names w (call.ReadsValue n v) = of_value kinds.value_eq w (held_at w.slots n) v
  answer_later kinds names w (call.ReadsSlice n h v) =
      of_slice kinds.slice_eq w (held_at w.slots n) (slice_of h v.items)
  answer_later kinds names w (call.ReadsText n t) = of_text w (held_at w.slots n) _
  answer_later kinds names w (call.Same n m) = stays w
  answer_later kinds names w (call.Count n) = of_count w (held_at w.slots n)
  answer_later kinds names w (call.Len which) = stays w
  answer_later kinds names w (call.AsUint n) = of_uint w (held_at w.slots n)
  answer_later kinds names w call.Collect = sweeps w names

  pub step_later : (kinds : Kinds C G H I) (w : WorldState C G H I) (c : Call C G S H I)
      (r : Reply C G H) (x : WorldState C G H I) → Step kinds w c r x → Laters w x
  step_later kinds w c r x (inl a) = rw a.says.after_is (answer_later kinds a.names w c)
  step_later kinds w c r x (inr l) = rw l.after_is (stays w)

  pub step_distinct : (kinds : Kinds C G H I) (w : WorldState C G H I) (c : Call C G S H I)
      (r : Reply C G H) (x : WorldState C G H I) → Step kinds w c r x
      → are_distinct (numbers_of w) ≡ true → are_distinct (numbers_of x) ≡ true
  step_distinct kinds w c r x step ok =
      ap are_distinct (same_numbers w x (step_later kinds w c r x step)) ∙ ok
