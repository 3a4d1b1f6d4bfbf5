-- What each call adds to the count of an entry, and what it takes from it.
use Rattle.std.proofs.Common.{◌≡◌, ℕ, ◌+◌, Bool, true, false, cond, ◌&&◌, if◌then◌else◌, inl, inr, List, [], ◌∷◌, ◌++◌, length, slice_set, Option, Some, None, refl, sym, ap, ◌∙◌, subst, arith}
use Rattle.std.specs.List.{filter}
use Rattle.std.specs.Str.{bytes_eq}
use Rattle.std.proofs.lemmas.List.{get_or_push}
use Rattle.ra_ap_intern.specs.Name.{Name}
use Rattle.ra_ap_intern.specs.Presets.{place_of}
use Rattle.ra_ap_intern.specs.Refusal.{Refusal}
use Rattle.ra_ap_intern.specs.Refusal.TheVariants.{OutOfMemory}
use Rattle.ra_ap_intern.specs.Named.{same_name}
use Rattle.ra_ap_intern.specs.Slices.{slice_of, slice_in, slice_name_in, slice_back}
use Rattle.ra_ap_intern.specs.Sliced.{Sliced}
use Rattle.ra_ap_intern.specs.State.{IsState, interned, interned_name, interned_counted, given_back, counted_up, released, full, any_count}
use Rattle.ra_ap_intern.specs.Symbols.{Named, IsTable, due_of, symbol_at, symbol_in, symbol_name}
use Rattle.ra_ap_intern.specs.declared.symbol.symbols.TheConstants as constant
use Rattle.ra_ap_intern.specs.Symbols.Named.{preset, entry}
use Rattle.intern_calls.specs.Answer.{Answer, counted_back, value_back, header_back, unless, makes, raw_held, up, down, given_up, due_up, due_down, at_text, answer, refers, clones, owns, releases, decrements, tells_birth, reads_counted, reads_value, reads_slice, reads_text, tells_count, tells_uint, stores, stores_gc, stores_slice, stores_text}
use Rattle.intern_calls.specs.Held.{Home, Held, seen, held_at}
use Rattle.intern_calls.specs.Held.Home.{counted, values, slices}
use Rattle.intern_calls.specs.Held.Held.{nothing, owned, reference, symbol}
use Rattle.intern_calls.specs.Step.{Step, Reaches}
use Rattle.intern_calls.specs.World.{Kinds, WorldState}
use Rattle.intern_calls.specs.declared.call.Call.{Call}
use Rattle.intern_calls.specs.declared.call.Call.TheVariants as call
use Rattle.intern_calls.specs.declared.call.Which.{Which}
use Rattle.intern_calls.specs.declared.call.Which.TheVariants as which
use Rattle.intern_calls.specs.declared.reply.Back.{Back}
use Rattle.intern_calls.specs.declared.reply.Back.TheVariants as back
use Rattle.intern_calls.specs.declared.reply.Reply.{Reply}
use Rattle.intern_calls.specs.declared.reply.Reply.TheVariants.{Refused}
use Rattle.intern_world.specs.Ledger.{is_part, names_entry, count_in_part, counts_handle, made, added, taken_by, taken, Balances}
use Rattle.intern_world.specs.Run.{Turn, IsWorld, IsRun}
use Rattle.ra_ap_intern.proofs.CallerLemmas.{times_counted_up, times_counted_down, times_released, times_interned, times_interned_counted, counted_due}
use Rattle.intern_world.proofs.Swept.{swept_counts}

-- one where it is true
abbrev flag : Bool → ℕ
flag b = cond b 1 0

plus_none : (n : ℕ) → n + 0 ≡ n
plus_none n = omega arith

held_last : (l : List Held) (h : Held) → held_at (l ++ h ∷ []) (length l) ≡ h
held_last l h = get_or_push l h nothing (length l) refl

module _ {C G H I : Type 0} where
  -- the slots count nothing
  beside : (w : WorldState C G H I) (l : List Held) (part : Which) (n : Name)
      → count_in_part (record w { slots = l }) part n ≡ count_in_part w part n
  beside w l which.Counted n = refl
  beside w l which.Values n = refl
  beside w l which.Slices n = refl
  beside w l which.Symbols n = refl

  -- counted up or down, the entry of a name in its part counts one more or less, and others what
  -- they did
  up_adds : (part : Which) (n : Name) (w : WorldState C G H I) (h : Home) (m : Name)
      → due_up w h m ≡ None
      → count_in_part (up w h m) part n + 0
      ≡ count_in_part w part n + flag (is_part h part && same_name n m)
  up_adds which.Counted n w counted m free = plus_none _ ∙ times_counted_up w.counted m n _ free
  up_adds which.Values n w values m free = plus_none _ ∙ times_counted_up w.values m n _ free
  up_adds which.Slices n w slices m free = plus_none _ ∙ times_counted_up w.slices m n _ free
  up_adds _ n w counted m free = refl
  up_adds _ n w values m free = refl
  up_adds _ n w slices m free = refl

  down_takes : (part : Which) (n : Name) (w : WorldState C G H I) (h : Home) (m : Name)
      → due_down w h m ≡ None
      → count_in_part (down w h m) part n + flag (is_part h part && same_name n m)
      ≡ count_in_part w part n + 0
  down_takes which.Counted n w counted m free =
      times_counted_down w.counted m n free ∙ sym (plus_none _)
  down_takes which.Values n w values m free =
      times_counted_down w.values m n free ∙ sym (plus_none _)
  down_takes which.Slices n w slices m free =
      times_counted_down w.slices m n free ∙ sym (plus_none _)
  down_takes _ n w counted m free = refl
  down_takes _ n w values m free = refl
  down_takes _ n w slices m free = refl

  give_up_takes : (part : Which) (n : Name) (w : WorldState C G H I) (h : Home) (m : Name)
      → due_down w h m ≡ None
      → count_in_part (given_up w h m) part n + flag (is_part h part && same_name n m)
      ≡ count_in_part w part n + 0
  give_up_takes which.Counted n w counted m free =
      times_released false w.counted m n free ∙ sym (plus_none _)
  give_up_takes which.Values n w values m free =
      times_released true w.values m n free ∙ sym (plus_none _)
  give_up_takes which.Slices n w slices m free =
      times_counted_down w.slices m n free ∙ sym (plus_none _)
  give_up_takes _ n w counted m free = refl
  give_up_takes _ n w values m free = refl
  give_up_takes _ n w slices m free = refl

  -- the same of a symbol; a preset counts nothing
  text_up_adds : (part : Which) (n : Name) (w : WorldState C G H I) (s : Named)
      → due_of w.table s (full w.table.top) ≡ None
      → count_in_part (at_text counted_up w s) part n + 0
      ≡ count_in_part w part n + flag (names_entry part n (symbol s))
  text_up_adds which.Symbols n w (entry m) free =
      plus_none _ ∙ times_counted_up w.table m n _ free
  text_up_adds _ n w (entry m) free = refl
  text_up_adds _ n w (preset p) free = refl

  text_down_takes : (part : Which) (n : Name) (w : WorldState C G H I) (s : Named) → IsTable w.table
      → due_of w.table s any_count ≡ None
      → count_in_part (at_text (released false) w s) part n
      + flag (names_entry part n (symbol s))
      ≡ count_in_part w part n + 0
  text_down_takes which.Symbols n w (entry m) ok free =
      times_released false w.table m n (counted_due w.table m any_count ok.positive free)
      ∙ sym (plus_none _)
  text_down_takes _ n w (entry m) ok free = refl
  text_down_takes _ n w (preset p) ok free = refl

module _ {C G H I : Type 0} (part : Which) (n : Name) where
  -- what an answer leaves, where it counts the handle that it makes
  abbrev Adds : WorldState C G H I → Answer C G H I → Type 0
  Adds w a = count_in_part a.after part n + 0
      ≡ count_in_part w part n + flag (names_entry part n (made a.reply a.after.slots))

  -- or where it counts none
  abbrev Stays : WorldState C G H I → Answer C G H I → Type 0
  Stays w a = count_in_part a.after part n + 0 ≡ count_in_part w part n + 0

  -- a call that is refused leaves what was
  unless_adds : (w : WorldState C G H I) (o : Option Refusal) (b : Back C G H)
      (a : Answer C G H I) → (o ≡ None → Adds w a) → Adds w (unless o b w a)
  unless_adds w None b a holds = holds refl
  unless_adds w (Some why) b a holds = refl

  unless_stays : (w : WorldState C G H I) (o : Option Refusal) (b : Back C G H)
      (a : Answer C G H I) → Stays w a → Stays w (unless o b w a)
  unless_stays w None b a holds = holds
  unless_stays w (Some why) b a holds = refl

  -- a handle in a new slot, counted or not
  makes_adds : (w x : WorldState C G H I) (h : Held) (b : Back C G H)
      → count_in_part x part n + 0 ≡ count_in_part w part n + flag (names_entry part n h)
      → Adds w (makes x h b)
  makes_adds w x h b sums =
      ap (λ k. k + 0) (beside x (x.slots ++ h ∷ []) part n) ∙ sums
      ∙ ap (λ (y : Held). count_in_part w part n + flag (names_entry part n y))
      (sym (held_last x.slots h))

  makes_stays : (w x : WorldState C G H I) (h : Held) (b : Back C G H)
      → count_in_part x part n ≡ count_in_part w part n → Stays w (makes x h b)
  makes_stays w x h b same = ap (λ k. k + 0) (beside x (x.slots ++ h ∷ []) part n ∙ same)

  -- each call
  of_new : (eq : C → C → Bool) (w : WorldState C G H I) (v : C) → IsState eq w.counted
      → Adds w (stores eq w v)
  of_new eq w v ok = unless_adds w _ _ _ (λ free.
      makes_adds w (record w { counted = interned_counted eq w.counted v })
      (owned counted (interned_name eq w.counted v))
      (counted_back (given_back eq w.counted v v)) (sums part))
    where
      sums : (p : Which)
          → count_in_part (record w { counted = interned_counted eq w.counted v }) p n + 0
          ≡ count_in_part w p n
          + flag (names_entry p n (owned counted (interned_name eq w.counted v)))
      sums which.Counted = plus_none _ ∙ times_interned_counted eq w.counted v n ok
      sums _ = refl

  of_value : (eq : G → G → Bool) (w : WorldState C G H I) (v : G) → IsState eq w.values
      → Stays w (stores_gc eq w v)
  of_value eq w v ok = unless_stays w _ _ _
      (makes_stays w (record w { values = (interned eq w.values v).state })
      (reference values (interned_name eq w.values v)) (value_back (given_back eq w.values v v))
      (same part))
    where
      same : (p : Which)
          → count_in_part (record w { values = (interned eq w.values v).state }) p n
          ≡ count_in_part w p n
      same which.Values = times_interned eq w.values v n ok
      same _ = refl

  of_slice : (eq : Sliced H I → Sliced H I → Bool) (w : WorldState C G H I) (h : H) (l : List I)
      → IsState eq w.slices → Stays w (stores_slice eq w h l)
  of_slice eq w h l ok = unless_stays w _ _ _
      (makes_stays w (record w { slices = (slice_in eq w.slices h l).state })
      (reference slices (slice_name_in eq w.slices h l)) (header_back (slice_back eq w.slices h l))
      (same part))
    where
      same : (p : Which)
          → count_in_part (record w { slices = (slice_in eq w.slices h l).state }) p n
          ≡ count_in_part w p n
      same which.Slices = times_interned eq w.slices (slice_of h l) n ok
      same _ = refl

  of_text : (w : WorldState C G H I) (t : List ℕ) → IsState bytes_eq w.table
      → Adds w (stores_text w t)
  of_text w t ok = unless_adds w _ _ _ (λ free.
      makes_adds w (record w { table = (symbol_in w.table t).table })
      (symbol (symbol_in w.table t).symbol) back.Nothing (sums part (place_of t)))
    where
      sums : (p : Which) (o : Option ℕ)
          → count_in_part (record w { table = (symbol_at o w.table t).table }) p n + 0
          ≡ count_in_part w p n + flag (names_entry p n (symbol (symbol_at o w.table t).symbol))
      sums which.Symbols None = plus_none _ ∙ times_interned_counted bytes_eq w.table t n ok
      sums _ None = refl
      sums _ (Some place) = refl

  of_clones : (w : WorldState C G H I) (h : Held) → Adds w (clones w h)
  of_clones w nothing = refl
  of_clones w (owned h m) = unless_adds w _ _ _ (λ free.
      makes_adds w (up w h m) (owned h m) back.Nothing (up_adds part n w h m free))
  of_clones w (reference h m) = refl
  of_clones w (symbol s) = unless_adds w _ _ _ (λ free.
      makes_adds w (at_text counted_up w s) (symbol s) back.Nothing (text_up_adds part n w s free))

  of_owns : (w : WorldState C G H I) (h : Held) → Adds w (owns w h)
  of_owns w nothing = refl
  of_owns w (owned h m) = refl
  of_owns w (reference h m) = unless_adds w _ _ _ (λ free.
      makes_adds w (up w h m) (owned h m) back.Nothing (up_adds part n w h m free))
  of_owns w (symbol s) = refl

  of_refers : (w : WorldState C G H I) (h : Held) → Stays w (refers w h)
  of_refers w nothing = refl
  of_refers w (owned h m) = makes_stays w w (reference h m) back.Nothing refl
  of_refers w (reference h m) = refl
  of_refers w (symbol s) = refl

  of_birth : (w : WorldState C G H I) (h : Held) → Stays w (tells_birth w h)
  of_birth w (reference counted m) = refl
  of_birth w (reference values m) = refl
  of_birth w _ = refl

  of_counted_read : (eq : C → C → Bool) (w : WorldState C G H I) (h : Held) (v : C)
      → Stays w (reads_counted eq w h v)
  of_counted_read eq w (owned counted m) v = refl
  of_counted_read eq w (reference counted m) v = refl
  of_counted_read eq w _ v = refl

  of_value_read : (eq : G → G → Bool) (w : WorldState C G H I) (h : Held) (v : G)
      → Stays w (reads_value eq w h v)
  of_value_read eq w (owned values m) v = refl
  of_value_read eq w (reference values m) v = refl
  of_value_read eq w _ v = refl

  of_slice_read : (eq : Sliced H I → Sliced H I → Bool) (w : WorldState C G H I) (h : Held)
      (v : Sliced H I) → Stays w (reads_slice eq w h v)
  of_slice_read eq w (owned slices m) v = refl
  of_slice_read eq w (reference slices m) v = refl
  of_slice_read eq w _ v = refl

  of_text_read : (w : WorldState C G H I) (h : Held) (t : List ℕ) → Stays w (reads_text w h t)
  of_text_read w (symbol s) t = refl
  of_text_read w _ t = refl

  of_count : (w : WorldState C G H I) (h : Held) → Stays w (tells_count w h)
  of_count w nothing = refl
  of_count w _ = refl

  of_uint : (w : WorldState C G H I) (h : Held) → Stays w (tells_uint w h)
  of_uint w (symbol s) = refl
  of_uint w _ = refl

module _ {C G H I : Type 0} (S : Type 0) (part : Which) (n : Name) where
  -- what a call leaves, and what it took, are what was there, and what it added
  abbrev Balanced : WorldState C G H I → Call C G S H I → Reply C G H → WorldState C G H I
      → Type 0
  Balanced w c reply after =
      count_in_part after part n + flag (names_entry part n (taken_by c reply w.slots))
      ≡ count_in_part w part n + flag (names_entry part n
      (if counts_handle c then made reply after.slots else nothing))

  abbrev IsBalanced : WorldState C G H I → Call C G S H I → Answer C G H I → Type 0
  IsBalanced w c a = Balanced w c a.reply a.after

  refused : (w : WorldState C G H I) (c : Call C G S H I) (why : Refusal) (b : Back C G H)
      → Balanced w c (Refused why b) w
  refused w (call.Release k) why b = refl
  refused w (call.Decrement k) why b = refl
  refused w _ why b = refl

  unless_balanced : (w : WorldState C G H I) (c : Call C G S H I) (o : Option Refusal)
      (b : Back C G H) (a : Answer C G H I) → (o ≡ None → IsBalanced w c a)
      → IsBalanced w c (unless o b w a)
  unless_balanced w c None b a holds = holds refl
  unless_balanced w c (Some why) b a holds = refused w c why b

  -- what a release or a decrement takes back
  of_releases : (w : WorldState C G H I) (k : ℕ) (h : Held) → held_at w.slots k ≡ h
      → IsTable w.table → IsBalanced w (call.Release k) (releases w k h)
  of_releases w k nothing is ok = refl
  of_releases w k (owned h m) is ok = unless_balanced w (call.Release k) _ _ _
      (λ free. ap (λ x. x + flag (names_entry part n (held_at w.slots k)))
      (beside (given_up w h m) (slice_set (given_up w h m).slots k nothing) part n)
      ∙ ap (λ (y : Held). count_in_part (given_up w h m) part n + flag (names_entry part n y)) is
      ∙ give_up_takes part n w h m free)
  of_releases w k (reference h m) is ok = refl
  of_releases w k (symbol s) is ok = unless_balanced w (call.Release k) _ _ _
      (λ free. ap (λ x. x + flag (names_entry part n (held_at w.slots k)))
      (beside (at_text (released false) w s) (slice_set w.slots k nothing) part n)
      ∙ ap (λ (y : Held). count_in_part (at_text (released false) w s) part n
      + flag (names_entry part n y)) is
      ∙ text_down_takes part n w s ok free)

  of_decrements : (w : WorldState C G H I) (k : ℕ) (h : Held) → held_at w.slots k ≡ h
      → IsTable w.table → IsBalanced w (call.Decrement k) (decrements w h)
  of_decrements w k nothing is ok = refl
  of_decrements w k (owned h m) is ok = refl
  of_decrements w k (reference h m) is ok = unless_balanced w (call.Decrement k) _ _ _
      (λ free. ap (λ (y : Held). count_in_part (down w h m) part n
      + flag (names_entry part n y)) is
      ∙ down_takes part n w h m free)
  of_decrements w k (symbol s) is ok = unless_balanced w (call.Decrement k) _ _ _
      (λ free. ap (λ (y : Held). count_in_part (at_text (released false) w s) part n
      + flag (names_entry part n y)) is
      ∙ text_down_takes part n w s ok free)

  answer_balanced : (kinds : Kinds C G H I) (names : List Name) (w : WorldState C G H I)
      (c : Call C G S H I) → IsWorld kinds w → Reaches kinds w c names
      → IsBalanced w c (answer kinds names w c)
  answer_balanced kinds names w (call.New v) ok set = of_new part n kinds.counted_eq w v ok.counted
  answer_balanced kinds names w (call.NewGc v) ok set =
      of_value part n kinds.value_eq w v ok.values
  answer_balanced kinds names w (call.FromHeaderAndSlice h v) ok set =
      of_slice part n kinds.slice_eq w h v.items ok.slices
  answer_balanced kinds names w (call.Intern t) ok set = of_text part n w _ ok.table
  answer_balanced kinds names w (call.IntegerGet k) ok set = of_text part n w _ ok.table
  answer_balanced kinds names w (call.GeneratedGet k) ok set = of_text part n w _ ok.table
  answer_balanced kinds names w call.Empty ok set =
      makes_stays part n w w (symbol (symbol_name constant._empty_sym)) back.Nothing refl
  answer_balanced kinds names w (call.Put slot) ok set =
      makes_stays part n w w (seen slot) back.Nothing refl
  answer_balanced kinds names w (call.FromRaw kind b) ok set =
      unless_stays part n w _ _ _
      (makes_stays part n w w (raw_held w kind b) back.Nothing refl)
  answer_balanced kinds names w (call.AsRef k) ok set = of_refers part n w (held_at w.slots k)
  answer_balanced kinds names w (call.Clone k) ok set = of_clones part n w (held_at w.slots k)
  answer_balanced kinds names w (call.ToOwned k) ok set = of_owns part n w (held_at w.slots k)
  answer_balanced kinds names w (call.Release k) ok set =
      of_releases w k (held_at w.slots k) refl ok.texts
  answer_balanced kinds names w (call.Decrement k) ok set =
      of_decrements w k (held_at w.slots k) refl ok.texts
  answer_balanced kinds names w (call.AsRaw k) ok set = of_birth part n w (held_at w.slots k)
  answer_balanced kinds names w (call.ReadsCounted k v) ok set =
      of_counted_read part n kinds.counted_eq w (held_at w.slots k) v
  answer_balanced kinds names w (call.ReadsValue k v) ok set =
      of_value_read part n kinds.value_eq w (held_at w.slots k) v
  answer_balanced kinds names w (call.ReadsSlice k h v) ok set =
      of_slice_read part n kinds.slice_eq w (held_at w.slots k) (slice_of h v.items)
  answer_balanced kinds names w (call.ReadsText k t) ok set =
      of_text_read part n w (held_at w.slots k) _
  answer_balanced kinds names w (call.Same k m) ok set = refl
  answer_balanced kinds names w (call.Count k) ok set = of_count part n w (held_at w.slots k)
  answer_balanced kinds names w (call.Len which) ok set = refl
  answer_balanced kinds names w (call.AsUint k) ok set = of_uint part n w (held_at w.slots k)
  answer_balanced kinds names w call.Collect ok set =
      ap (λ x. x + 0) (swept_counts kinds w _ names ok (λ m is. is) set part n)

  step_balanced : (kinds : Kinds C G H I) (w : WorldState C G H I) (c : Call C G S H I)
      (r : Reply C G H) (x : WorldState C G H I) → IsWorld kinds w → Step kinds w c r x
      → Balanced w c r x
  step_balanced kinds w c r x ok (inl a) =
      rw (a.says.reply_is, a.says.after_is) (answer_balanced kinds a.names w c ok a.reached)
  step_balanced kinds w c r x ok (inr l) =
      rw (l.reply_is, l.after_is) (refused w c OutOfMemory l.given)

-- one more where the first passes
one_more : {X : Type 0} (p : X → Bool) (x : X) (xs : List X)
    → length (filter p (x ∷ xs)) ≡ flag (p x) + length (filter p xs)
one_more p x xs = go (p x)
  where
    go : (t : Bool) → length (cond t (x ∷ filter p xs) (filter p xs))
        ≡ flag t + length (filter p xs)
    go true = omega arith
    go false = omega arith

module _ {C G S H I : Type 0} (kinds : Kinds C G H I) where
  -- turns with which a run begins balance
  turns_balance : (done rest : List (Turn C G S H I)) (w end : WorldState C G H I)
      → IsRun kinds w (done ++ rest) end → Balances w done
  turns_balance [] rest w end run = λ part n. refl
  turns_balance (t ∷ done) rest w end run = λ part n.
      let later = turns_balance done rest t.after end run.3 part n in
      let now = step_balanced S part n kinds t.before t.call t.reply t.after (rw (sym run.0) run.1)
      run.2 in
      let same : count_in_part w part n ≡ count_in_part t.before part n =
      ap (λ x. count_in_part x part n) run.0 in
      let more = one_more (λ (u : Turn C G S H I). names_entry part n (added u)) t done in
      let less = one_more (λ (u : Turn C G S H I). names_entry part n (taken u)) t done in
      omega arith

  pub all_balance : (ts : List (Turn C G S H I)) (w end : WorldState C G H I)
      → IsRun kinds w ts end → (done rest : List (Turn C G S H I)) → ts ≡ done ++ rest
      → Balances w done
  all_balance ts w end run done rest is =
      turns_balance done rest w end (subst (λ l. IsRun kinds w l end) is run)
