use Rattle.std.proofs.Common.{Some, cond, refl, ◌∙◌}
use Rattle.std.specs.Str.{bytes_eq}
use Rattle.ra_ap_intern.proofs.CallerLemmas.{on_err, text_put, texts_same}
use Rattle.use_names.proofs.Scope.declare.Goals as goal

pub returns-in_err-symbol-clause-stays : goal.returns-in_err-symbol-clause-stays
returns-in_err-symbol-clause-stays g c =
    on_err c.from_residual-in_err-symbol.result (rw c.in_err-symbol.ensures.state
    (texts_same _ c.symbol_references_are_what_they_name.ensures.equal _ c.args.self.now.values
    c.reserve.new.self (λ symbol. rw c.reserve.ensures.entries refl)))

pub returns-clause-declares : goal.returns-clause-declares
returns-clause-declares g c =
    let puts = rw c.unwrap.ensures at c.insert-stored.ensures.updates in
    let alike = c.symbol_references_are_what_they_name.ensures.equal in
    let names = c.args.self.now.names in
    rw c.in_ok-symbol.ensures.state
    (λ text.
    text_put _ alike names c.args.name.now c.number-number.ensures.state
    c.in_ok-symbol.ensures.refused _ (c.as_ref.ensures ∙ c.in_ok-symbol.ensures.ok)
    c.reserve.new.self c.insert-stored.new.self (Some c.args.value) puts.0 text
    ∙ (λ i. cond (bytes_eq c.args.name.now text) (Some c.args.value)
    (texts_same _ alike names c.args.self.now.values c.reserve.new.self
    (λ symbol. rw c.reserve.ensures.entries refl) text i)))
