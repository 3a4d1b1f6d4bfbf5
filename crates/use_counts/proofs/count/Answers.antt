use Rattle.std.proofs.Common.{◌∙◌}
use Rattle.std.specs.Cmp.Lexicographic.{nat_list_eq_equiv}
use Rattle.std.specs.Str.{bytes_eq}
use Rattle.ra_ap_intern.specs.State.{counts}
use Rattle.ra_ap_intern.proofs.CallerLemmas.{interned_counted_counts}
use Rattle.use_counts.proofs.count.Goals as goal

pub returns-clause-counted : goal.returns-clause-counted
returns-clause-counted c =
    let r = interned_counted_counts bytes_eq nat_list_eq_equiv c.args.words.now c.args.word.now in
    (r.0, (λ i. counts (c.in_ok-handle.ensures.state i) ((c.as_ref.ensures ∙ c.in_ok-handle.ensures.name) i)) ∙ r.1)
