use Rattle.std.proofs.Common.{[], ◌∙◌}
use Rattle.std.proofs.lemmas.Bool.{and_from, or_left, or_right}
use Rattle.ra_ap_intern.proofs.CallerLemmas.{counted_starts, entry_read}
use Rattle.intern_terms.specs.Store.{declared_by}
use Rattle.intern_terms.proofs.laws.a_counted_term_is_kept.Goals as goal

pub returns-clause-counted : goal.returns-clause-counted
returns-clause-counted c s listed names is name n counted some =
    (is.reached name).1 ([], or_left _ _ (counted_starts declared_by s name n counted some))

pub returns-clause-listed : goal.returns-clause-listed
returns-clause-listed c s listed names is name there among =
    (is.reached name).1
    ([], or_right _ _ (and_from _ _ (entry_read declared_by s name ∙ there) among))
