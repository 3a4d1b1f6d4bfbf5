use Rattle.std.proofs.lemmas.Slice.Eq.{bytes_eq-Decides}
use Rattle.std.specs.Cmp.Lexicographic.{nat_list_eq_equiv}
use Rattle.std.specs.Str.{bytes_eq}
use Rattle.ra_ap_intern.proofs.CallerLemmas.{interned_counted_twice}
use Rattle.use_counts.proofs.names_tell_words.Goals as goal

pub returns : goal.returns
returns c s ok v w =
    let names = interned_counted_twice bytes_eq nat_list_eq_equiv s ok v w in
    let same = bytes_eq-Decides v w in (λ is. same.0 (names.0 is), λ is. names.1 (same.1 is))
