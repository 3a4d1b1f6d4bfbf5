use Rattle.std.proofs.Common.{rules}
use Rattle.ra_ap_intern.specs.Symbols.{source_of}
use Rattle.ra_ap_intern.proofs.symbol.packed.Packed.preset.Goals as goal

pub returns : goal.returns
unfolding source_of
returns c = search rules
