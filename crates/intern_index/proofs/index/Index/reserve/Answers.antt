use Rattle.std.proofs.Common.{sym, subst}
use Rattle.intern_index.specs.IndexEntry.{IsLed}
use Rattle.intern_index.specs.Keyed.{IsKeyed}
use Rattle.intern_index.proofs.Finds.{entered, keyed_slots, led_slots}
use Rattle.intern_index.proofs.index.Index.reserve.Goals as goal

pub reserve-requires-2-clause-keyed : goal.reserve-requires-2-clause-keyed
reserve-requires-2-clause-keyed g c =
    let key = g.K.Hashes.hash_of c.args.by.now in
    subst (IsKeyed c.self.inside.by_hash.buckets (entered key)) (sym c.reserve.ensures.rest_kept)
    (keyed_slots key c.self.inside.slots _ _ c.self.invariant _ (subst (IsLed key) (sym c.self.view_is) c.requires.led))

pub returns-in_err-reserve-2-clause-led : goal.returns-in_err-reserve-2-clause-led
returns-in_err-reserve-2-clause-led g c = led_slots (g.K.Hashes.hash_of c.args.by.now) c.reserve.new.self c.reserve-2.new.self.buckets _ c.reserve-2.ensures.keyed

pub returns-clause-led : goal.returns-clause-led
returns-clause-led g c = led_slots (g.K.Hashes.hash_of c.args.by.now) c.reserve.new.self c.reserve-2.new.self.buckets _ c.reserve-2.ensures.keyed
