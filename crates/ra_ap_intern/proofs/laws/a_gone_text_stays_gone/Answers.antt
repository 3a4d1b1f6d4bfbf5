use Rattle.std.proofs.Common.{false}
use Rattle.intern_store.specs.State.{counted_up, released}
use Rattle.intern_store.proofs.Later.{gone_later, counted_up_later, released_later}
use Rattle.ra_ap_intern.proofs.Texts.{symbol_later, changed_later}
use Rattle.ra_ap_intern.proofs.laws.a_gone_text_stays_gone.Goals as goal

pub returns-clause-interned : goal.returns-clause-interned
returns-clause-interned c = λ s t. gone_later s _ (symbol_later s t)

pub returns-clause-cloned : goal.returns-clause-cloned
returns-clause-cloned c = λ s a. gone_later s _ (changed_later counted_up counted_up_later s a)

pub returns-clause-released : goal.returns-clause-released
returns-clause-released c = λ s a. gone_later s _ (changed_later (released false) (released_later false) s a)
