-- What holds at each world of a run, and at each later one.
use Rattle.std.proofs.Common.{◌≡◌, inl, inr, ℕ, ◌-◌, ◌≤◌, Bool, List, [], ◌∷◌, length, is_some, sym, ap, ◌∙◌, arith}
use Rattle.std.specs.List.{All, AllPairs}
use Rattle.std.specs.Str.{bytes_eq}
use Rattle.std.proofs.lemmas.List.Elements.{All-nil, All-cons}
use Rattle.std.proofs.lemmas.List.Kept.{AllPairs-cons}
use Rattle.std.proofs.lemmas.List.Sums.{length-filter, count_by-le-length}
use Rattle.ra_ap_intern.proofs.CallerLemmas.{read_below, Later, reads_later}
use Rattle.ra_ap_intern.specs.Names.{has}
use Rattle.ra_ap_intern.specs.Families.{IsCollection}
use Rattle.ra_ap_intern.specs.Name.{Name}
use Rattle.ra_ap_intern.specs.Reach.{Entry, starts, kept_entries}
use Rattle.ra_ap_intern.specs.State.{State, IsState}
use Rattle.ra_ap_intern.specs.Symbols.{IsTable}
use Rattle.intern_calls.specs.Answer.{told as tells_of}
use Rattle.intern_calls.specs.Step.{Step}
use Rattle.intern_calls.specs.declared.call.Call.{Call}
use Rattle.intern_calls.specs.declared.call.Call.TheVariants as call
use Rattle.intern_calls.specs.declared.reply.Reply.TheVariants.{Collected as Gathered}
use Rattle.intern_calls.specs.World.{Kinds, WorldState, entries, swept}
use Rattle.intern_world.specs.Along.{TellsValues, TellsTexts, TellsApart, KeepsReading, KeepsNames, Collects}
use Rattle.intern_world.specs.Run.{Turn, IsWorld, IsRun, worlds}
use Rattle.intern_world.proofs.Along.{Laters, laters, step_later}

module _ {V : Type 0} where
  pub later_keeps : (eq : V → V → Bool) (s t : State V) → IsState eq s → Later s t
      → KeepsReading s t
  later_keeps eq s t ok later = record {
    given = λ n v h. read_below eq s ok n (ap is_some h);
    value = λ n v h. elim (reads_later s t later n (read_below eq s ok n (ap is_some h))) [
      | inl same ↦ inl (same ∙ h)
      | inr none ↦ inr none
    ];
    nothing = λ n given h. elim (reads_later s t later n given) [
      | inl same ↦ same ∙ h
      | inr none ↦ none
    ];
    births = later.births;
  }

module _ {C G H I : Type 0} (kinds : Kinds C G H I) where
  pub keeps_names : (w x : WorldState C G H I) → IsWorld kinds w → Laters w x → KeepsNames w x
  keeps_names w x ok l = record {
    counted = later_keeps kinds.counted_eq w.counted x.counted ok.counted l.counted;
    values = later_keeps kinds.value_eq w.values x.values ok.values l.values;
    slices = later_keeps kinds.slice_eq w.slices x.slices ok.slices l.slices;
    table = later_keeps bytes_eq w.table x.table ok.table l.table;
  }

-- no more are kept than there are
fewer_kept : (family : List Entry) (names : List Name)
    → length (kept_entries family names) ≤ length family
fewer_kept family names =
    let kept = length-filter (λ (e : Entry). has names e.name) family in
    let fewer = count_by-le-length (λ (e : Entry). has names e.name) family in
    omega arith

module _ {C G S H I : Type 0} (kinds : Kinds C G H I) where
  all_worlds : (P : WorldState C G H I → Type 0) → ((x : WorldState C G H I) → IsWorld kinds x → P x)
      → (ts : List (Turn C G S H I)) (w end : WorldState C G H I) → IsRun kinds w ts end
      → All P (worlds w ts)
  all_worlds P holds [] w end run = All-cons P w [] (holds w run.1) (All-nil P)
  all_worlds P holds (t ∷ ts) w end run =
      All-cons P w (worlds t.after ts) (holds w run.1) (all_worlds P holds ts t.after end run.3)

  -- from one world on
  later_worlds : (w : WorldState C G H I) → IsWorld kinds w → (ts : List (Turn C G S H I))
      (x end : WorldState C G H I) → Laters w x → IsRun kinds x ts end
      → All (KeepsNames w) (worlds x ts)
  later_worlds w ok [] x end l run =
      All-cons (KeepsNames w) x [] (keeps_names kinds w x ok l) (All-nil (KeepsNames w))
  later_worlds w ok (t ∷ ts) x end l run =
      All-cons (KeepsNames w) x (worlds t.after ts) (keeps_names kinds w x ok l)
      (later_worlds w ok ts t.after end
      (laters w x t.after l (rw run.0 (step_later kinds t.before t.call t.reply t.after run.2)))
      run.3)

  pub all_keep : (ts : List (Turn C G S H I)) (w end : WorldState C G H I) → IsRun kinds w ts end
      → AllPairs KeepsNames (worlds w ts)
  all_keep [] w end run =
      AllPairs-cons KeepsNames w [] (All-nil (KeepsNames w)) (λ i j d lt below. absurd (omega arith))
  all_keep (t ∷ ts) w end run = AllPairs-cons KeepsNames w (worlds t.after ts)
      (later_worlds w run.1 ts t.after end
      (rw run.0 (step_later kinds t.before t.call t.reply t.after run.2)) run.3)
      (all_keep ts t.after end run.3)

  -- a collection that succeeds, by its step
  collects_by : (t : Turn C G S H I) → Step kinds t.before t.call t.reply t.after
      → Collects kinds t
  collects_by t step told is reply = go t.call is step
    where
      go : (c : Call C G S H I) → c ≡ call.Collect → Step kinds t.before c t.reply t.after
          → (names : List Name)
          × IsCollection (starts (entries kinds t.before)) (entries kinds t.before) names told
          × (t.after ≡ swept t.before names)
      go call.Collect same (inl a) =
          let family = entries kinds t.before in
          let says : Gathered told ≡ Gathered (tells_of family a.names) =
          sym reply ∙ a.says.reply_is in
          let removed : told.removed ≡ length family - length (kept_entries family a.names) = cc in
          let fewer = fewer_kept family a.names in (
            a.names,
            record {
              reached = a.reached;
              visits = let e = says in cc;
              mark_calls = let e = says in cc;
              removed = omega arith;
            },
            a.says.after_is,
          )
      go call.Collect same (inr l) = let e = sym reply ∙ l.reply_is in absurd (cc)
      go _ same step = absurd (cc)

  pub all_collect : (ts : List (Turn C G S H I)) (w end : WorldState C G H I)
      → IsRun kinds w ts end → All (Collects kinds) ts
  all_collect [] w end run = All-nil (Collects kinds)
  all_collect (t ∷ ts) w end run = All-cons (Collects kinds) t ts (collects_by t run.2)
      (all_collect ts t.after end run.3)

  pub all_tell :
      ((s : State C) → IsState kinds.counted_eq s → TellsValues kinds.counted_eq s)
      → ((s : State G) → IsState kinds.value_eq s → TellsValues kinds.value_eq s)
      → ((s : State _) → IsState kinds.slice_eq s → TellsValues kinds.slice_eq s)
      → ((s : State (List ℕ)) → IsState bytes_eq s → IsTable s → TellsTexts s)
      → (ts : List (Turn C G S H I)) (w end : WorldState C G H I) → IsRun kinds w ts end
      → All (TellsApart kinds) (worlds w ts)
  all_tell counted values slices texts = all_worlds (TellsApart kinds) (λ x ok. record {
    counted = counted x.counted ok.counted;
    values = values x.values ok.values;
    slices = slices x.slices ok.slices;
    symbols = texts x.table ok.table ok.texts;
  })
