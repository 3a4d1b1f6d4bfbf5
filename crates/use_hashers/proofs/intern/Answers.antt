use Rattle.std.proofs.lemmas.Slice.Eq.{bytes_eq-Decides}
use Rattle.std.specs.Str.{bytes_eq}
use Rattle.ra_ap_intern.proofs.CallerLemmas.{interned_counted_itself}
use Rattle.use_hashers.proofs.intern.Goals as goal

pub returns-clause-reads : goal.returns-clause-reads
returns-clause-reads g c =
    interned_counted_itself bytes_eq bytes_eq-Decides c.args.texts.now _ _ _
    c.in_ok-handle.ensures.name c.in_ok-handle.ensures.state
