use Rattle.std.proofs.Common.{rules}
use Rattle.ra_ap_intern.specs.Symbols.{source_of}
use Rattle.ra_ap_intern.proofs.symbol.packed.Packed.source.Goals as goal

pub returns : goal.returns
unfolding source_of
returns c = search rules

pub returns-then-place : goal.returns-then-place
unfolding source_of
returns-then-place c = search rules
