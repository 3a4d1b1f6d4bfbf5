use Rattle.std.proofs.Common.{refl, false}
use Rattle.intern_store.specs.State.{counted_up, released}
use Rattle.ra_ap_intern.proofs.Births.{symbol-fresh, next-symbol_given, next-symbol_stored, next-at_entry, next-released}
use Rattle.ra_ap_intern.proofs.laws.a_texts_birth_is_given_once.Goals as goal

pub returns-clause-fresh : goal.returns-clause-fresh
returns-clause-fresh c = symbol-fresh

pub returns-clause-given : goal.returns-clause-given
returns-clause-given c = next-symbol_given

pub returns-clause-stored : goal.returns-clause-stored
returns-clause-stored c = next-symbol_stored

pub returns-clause-cloned : goal.returns-clause-cloned
returns-clause-cloned c = next-at_entry counted_up (λ s b. refl)

pub returns-clause-released : goal.returns-clause-released
returns-clause-released c = next-at_entry (released false) (next-released false)
