-- A run goes on by a step.
use Rattle.std.proofs.Common.{◌≡◌, List, [], ◌∷◌, ◌++◌, refl, sym, ap, ◌∙◌}
use Rattle.std.specs.List.{All, AllPairs}
use Rattle.std.proofs.lemmas.List.{map-append}
use Rattle.intern_calls.specs.Step.{Step}
use Rattle.intern_calls.specs.World.{Kinds, WorldState}
use Rattle.intern_calls.specs.declared.call.Call.{Call}
use Rattle.intern_calls.specs.declared.reply.Reply.{Reply}
use Rattle.intern_world.specs.Along.{TellsApart, KeepsNames, Collects, RunsAlong}
use Rattle.intern_world.specs.Ledger.{Balances}
use Rattle.intern_world.specs.Run.{Turn, IsWorld, IsRun, Runs, worlds}

module _ {C G S H I : Type 0} (kinds : Kinds C G H I) (w : WorldState C G H I) where
  run_more : (ts : List (Turn C G S H I)) (start mid : WorldState C G H I) (c : Call C G S H I)
      (r : Reply C G H) (after : WorldState C G H I) → IsRun kinds start ts mid
      → Step kinds mid c r after → IsWorld kinds after
      → IsRun kinds start
      (ts ++ record { before = mid; call = c; reply = r; after = after } ∷ []) after
  run_more [] start mid c r after run step ok = (run.0, run.1, step, (refl, ok))
  run_more (t ∷ ts) start mid c r after run step ok =
      (run.0, run.1, run.2, run_more ts t.after mid c r after run.3 step ok)

  -- a run, and one from the world in which it ends
  pub joined_run : (first second : List (Turn C G S H I)) (start mid end : WorldState C G H I)
      → IsRun kinds start first mid → IsRun kinds mid second end
      → IsRun kinds start (first ++ second) end
  joined_run [] second start mid end run more = rw run.0 more
  joined_run (t ∷ ts) second start mid end run more =
      (run.0, run.1, run.2, joined_run ts second t.after mid end run.3 more)

  -- a run, and a step from the world in which it ends
  pub one_more : (cs : List (Call C G S H I)) (rs : List (Reply C G H)) (c : Call C G S H I)
      (r : Reply C G H) (mid after : WorldState C G H I) → Runs kinds w cs rs mid
      → Step kinds mid c r after → IsWorld kinds after
      → Runs kinds w (cs ++ c ∷ []) (rs ++ r ∷ []) after
  one_more cs rs c r mid after so_far step ok = record {
    turns = so_far.turns ++ record { before = mid; call = c; reply = r; after = after } ∷ [];
    run = run_more so_far.turns w mid c r after so_far.run step ok;
    calls_are = map-append (λ (t : Turn C G S H I). t.call) so_far.turns _
        ∙ ap (λ (l : List (Call C G S H I)). l ++ c ∷ []) so_far.calls_are;
    replies_are = map-append (λ (t : Turn C G S H I). t.reply) so_far.turns _
        ∙ ap (λ (l : List (Reply C G H)). l ++ r ∷ []) so_far.replies_are;
  }

  -- no call yet
  pub no_run : (rs : List (Reply C G H)) → IsWorld kinds w → rs ≡ []
      → Runs {S = S} kinds w [] rs w
  no_run rs ok none =
      record { turns = []; run = (refl, ok); calls_are = refl; replies_are = sym none }

  -- the world in which a run ends
  pub last_world : (ts : List (Turn C G S H I)) (start end : WorldState C G H I)
      → IsRun kinds start ts end → IsWorld kinds end
  last_world [] start end run = rw (sym run.0) run.1
  last_world (t ∷ ts) start end run = last_world ts t.after end run.3

  -- a run, with what holds along each run
  pub along : (cs : List (Call C G S H I)) (rs : List (Reply C G H)) (end : WorldState C G H I)
      → ((x last : WorldState C G H I) (ts : List (Turn C G S H I)) → IsRun kinds x ts last
      → All (TellsApart kinds) (worlds x ts))
      → ((x last : WorldState C G H I) (ts : List (Turn C G S H I)) → IsRun kinds x ts last
      → AllPairs KeepsNames (worlds x ts))
      → ((x last : WorldState C G H I) (ts : List (Turn C G S H I)) → IsRun kinds x ts last
      → (done rest : List (Turn C G S H I)) → ts ≡ done ++ rest → Balances x done)
      → ((x last : WorldState C G H I) (ts : List (Turn C G S H I)) → IsRun kinds x ts last
      → All (Collects kinds) ts)
      → Runs kinds w cs rs end → RunsAlong kinds w cs rs end
  along cs rs end tells keeps counts collects run = record {
    run = run;
    holds = record {
      tells = tells w end run.turns run.run;
      keeps = keeps w end run.turns run.run;
      counts = counts w end run.turns run.run;
      collects = collects w end run.turns run.run;
    };
  }
