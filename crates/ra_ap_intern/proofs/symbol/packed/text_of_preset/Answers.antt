use Rattle.std.proofs.Common.{◌≡◌, List, ℕ, None, Option, Some, IsSome, refl, sym, subst, arith}
use Rattle.intern_presets.specs.Presets.{preset_text}
use Rattle.intern_presets.proofs.Standing.{ends}
use Rattle.ra_ap_intern.proofs.symbol.packed.text_of_preset.Goals as goal

-- no preset stands beyond 16 bits
pub returns-in-Err : goal.returns-in-Err
returns-in-Err c = go (preset_text c.args.place) refl
  where
    go : (o : Option (List ℕ)) → preset_text c.args.place ≡ o → None ≡ o
    go (Some text) is =
        let below = (ends c.args.place).0 (subst IsSome (sym is) refl) in absurd (omega (arith, below))
    go None is = refl
