use Rattle.std.proofs.Common.{◌∙◌, refl, sym, ap, subst}
use Rattle.std.specs.Option.{option_map}
use Rattle.std.specs.Result.{result_ok}
use Rattle.std.specs.Str.{bytes_eq}
use Rattle.intern_store.specs.Named.{key_name}
use Rattle.intern_store.specs.Outcome.{IsWhy}
use Rattle.intern_store.specs.State.{birth_of}
use Rattle.ra_ap_intern.specs.Symbols.{IsTable, is_new_text}
use Rattle.ra_ap_intern.proofs.Tables.{interned_table, either_table, found_table, found_due, found_symbol, found_state}
use Rattle.ra_ap_intern.proofs.symbol.ReservedTexts.intern.Goals as goal

-- a text that is stored
pub invariant_of-self : goal.invariant_of-self
invariant_of-self g c =
    let s = c.self.inside.store.state in
    subst IsTable (sym c.in-Ok-Ok.ensures.state) (found_table s (birth_of bytes_eq s c.args.text.now) c.self.invariant)

pub returns-in-Ok-Ok-clause-ok : goal.returns-in-Ok-Ok-clause-ok
returns-in-Ok-Ok-clause-ok g c =
    let found = ap (λ f. option_map key_name (result_ok f)) (sym c.in-Ok-Ok.field-0-is) ∙ c.in-Ok-Ok.ensures.found in
    rw (← c.self.view_is) (c.runtime.ensures
    ∙ sym (found_symbol c.self.inside.store.state c.args.text.now c.self.invariant (key_name c.in-Ok-Ok.key) found))

pub returns-in-Ok-Ok-clause-state : goal.returns-in-Ok-Ok-clause-state
returns-in-Ok-Ok-clause-state g c =
    let found = ap (λ f. option_map key_name (result_ok f)) (sym c.in-Ok-Ok.field-0-is) ∙ c.in-Ok-Ok.ensures.found in
    rw (← c.self.view_is) (c.in-Ok-Ok.ensures.state
    ∙ sym (found_state c.self.inside.store.state c.args.text.now c.self.invariant (key_name c.in-Ok-Ok.key) found))

pub returns-in-Err-clause-refused : goal.returns-in-Err-clause-refused
returns-in-Err-clause-refused g c =
    let s = c.self.inside.store.state in
    rw (← c.self.view_is) (subst (λ due. IsWhy due (is_new_text s c.args.text.now) c.in-Err.why)
    (sym (found_due s c.args.text.now c.self.invariant c.in-Err.why c.in-Err.ensures.refused)) refl)

pub returns-in-Err-clause-roomy : goal.returns-in-Err-clause-roomy
returns-in-Err-clause-roomy g c = λ room short.
    rw (← c.self.view_is) (found_due c.self.inside.store.state c.args.text.now c.self.invariant c.in-Err.why c.in-Err.ensures.refused)

-- a text that isn't
pub invariant_of-self-2 : goal.invariant_of-self-2
invariant_of-self-2 g c =
    let s = c.self.inside.store.state in
    let still = subst IsTable (sym c.in-Ok-Err.ensures.state) (found_table s (birth_of bytes_eq s c.args.text.now) c.self.invariant) in
    either_table c.add_counted.result _ _ _ c.add_counted.ensures.state (interned_table c.count_up_stored.new.self.state c.args.text.now (sym c.in_default.ensures) still) still
