-- Steps from what the calls say.
use Rattle.std.proofs.Common.{◌≡◌, ◌⊎◌, inl, inr, [], Some}
use Rattle.ra_ap_intern.specs.Reach.{starts}
use Rattle.intern_calls.specs.Answer.{answer}
use Rattle.intern_calls.specs.Step.{Says, Lacks, Reaches, Step, Gathers, wants_memory}
use Rattle.intern_calls.specs.World.{Kinds, WorldState, entries}
use Rattle.intern_calls.specs.declared.call.Call.{Call}
use Rattle.intern_calls.specs.declared.call.Call.TheVariants as call
use Rattle.intern_calls.specs.declared.reply.Back.TheVariants as back
use Rattle.intern_calls.specs.declared.reply.Reply.{Reply}

module _ {C G S H I : Type 0} (kinds : Kinds C G H I) (w : WorldState C G H I)
    (c : Call C G S H I) (r : Reply C G H) (after : WorldState C G H I) where
  -- a call that is answered
  pub answered : (d : Call C G S H I) → c ≡ d → Reaches kinds w d []
      → Says (answer kinds [] w d) r after → Step kinds w c r after
  answered d is reached says =
      rw is (inl (record { names = []; reached = reached; says = says }))

  -- a call that is answered, or lacks memory
  pub either : (d : Call C G S H I) → c ≡ d → Reaches kinds w d []
      → Says (answer kinds [] w d) r after ⊎ Lacks (wants_memory kinds w d) w r after
      → Step kinds w c r after
  either d is reached (inl says) = answered d is reached says
  either d is reached (inr lacks) = rw is (inr lacks)

  -- a collection
  pub gathered : c ≡ call.Collect
      → Gathers kinds w (starts (entries kinds w)) r after
      ⊎ Lacks (Some back.Nothing) w r after
      → Step kinds w c r after
  gathered is (inl g) = rw is (inl (record { names = g.names; reached = g.reached; says = g.says }))
  gathered is (inr lacks) = rw is (inr lacks)
