use Rattle.std.proofs.Common.{ℕ, List, Some, sym, ap, ◌∙◌}
use Rattle.intern_store.specs.Named.{key_name}
use Rattle.intern_store.specs.State.{State}
use Rattle.ra_ap_intern.specs.Symbols.{named_in}
use Rattle.ra_ap_intern.specs.declared.symbol.SymbolTable.TheInside.{Inside}
use Rattle.ra_ap_intern.proofs.Tables.{found_named}
use Rattle.ra_ap_intern.proofs.symbol.SymbolTable.get.Goals as goal

pub returns-in-Some : goal.returns-in-Some
returns-in-Some g c =
    ap Some c.runtime-packed.ensures
    ∙ sym (found_named _ c.args.text.now c.self-inside.invariant (key_name c.in-Some.key) c.in-Some.ensures)
    ∙ ap (λ (s : State (List ℕ)). named_in s c.args.text.now)
    (ap (λ (i : Inside _ _). i.inner.state) c.self-inside.view_is ∙ c.self.view_is)
