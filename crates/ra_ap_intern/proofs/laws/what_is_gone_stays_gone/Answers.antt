use Rattle.intern_store.proofs.Later.{gone_later, interned_later, counted_up_later, counted_down_later, released_later, kept_later}
use Rattle.ra_ap_intern.proofs.laws.what_is_gone_stays_gone.Goals as goal

pub returns-clause-interned : goal.returns-clause-interned
returns-clause-interned g c = λ s v. gone_later s _ (interned_later g.T.PartialEq.eq s v)

pub returns-clause-counted_up : goal.returns-clause-counted_up
returns-clause-counted_up g c = λ s b. gone_later s _ (counted_up_later s b)

pub returns-clause-counted_down : goal.returns-clause-counted_down
returns-clause-counted_down g c = λ s b. gone_later s _ (counted_down_later s b)

pub returns-clause-released : goal.returns-clause-released
returns-clause-released g c = λ s stays b. gone_later s _ (released_later stays s b)

pub returns-clause-swept : goal.returns-clause-swept
returns-clause-swept g c = λ s marked. gone_later s _ (kept_later s marked)
